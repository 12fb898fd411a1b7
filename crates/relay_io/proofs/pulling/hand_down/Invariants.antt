use Rattle.relay_io.specs.Serving.{Handing}
use Rattle.relay_io.proofs.pulling.hand_down.Given as goal

-- no pull gave fewer bytes than its limit so far, and all that they gave was written
abbrev pub invariant-loop : goal.invariant-loop
invariant-loop g l = Handing l.hall.table.shared.table_id l.connection l.initial.pass l.pass (g.L.Line.told l.initial.line) (g.L.Line.told l.line)
