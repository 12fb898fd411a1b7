use Rattle.tree_server.proofs.Telling.{HoldsTo}
use Rattle.tree_server.proofs.lines.Lines.hold_rest.Given as goal

abbrev pub invariant-loop-place : goal.invariant-loop-place
invariant-loop-place l = HoldsTo l.initial.self l.self l.place
