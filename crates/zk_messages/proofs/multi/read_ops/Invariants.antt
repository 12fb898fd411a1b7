use Rattle.std.proofs.Common.{length}
use Rattle.jute_core.specs.Jute.{Each}
use Rattle.zk_messages.specs.Multi.{SpellsOp}
use Rattle.zk_messages.specs.Reading.{Reaches}
use Rattle.zk_messages.proofs.multi.read_ops.Given as goal

abbrev pub invariant-loop-ops : goal.invariant-loop-ops
invariant-loop-ops l = Reaches l.initial.cursor l.cursor (Each SpellsOp l.ops.items)

abbrev pub decreases-loop-ops : goal.decreases-loop-ops
decreases-loop-ops l = length l.cursor.left
