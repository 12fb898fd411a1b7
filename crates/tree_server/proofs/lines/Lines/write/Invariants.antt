use Rattle.std.proofs.Common.{◌-◌, length}
use Rattle.tree_server.specs.Connections.{WritesFirst}
use Rattle.tree_server.proofs.lines.Lines.write.Given as goal

abbrev pub invariant-loop-self : goal.invariant-loop-self
invariant-loop-self l = WritesFirst l.initial.self l.self

abbrev pub decreases-loop-self : goal.decreases-loop-self
decreases-loop-self l = length l.self.unwritten - l.self.written
