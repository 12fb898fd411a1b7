use Rattle.std.proofs.Common.{take}
use Rattle.jute_core.specs.Jute.{Each}
use Rattle.zk_messages.specs.Multi.{SpellsOp}
use Rattle.zk_messages.specs.Sending.{AddsBytes}
use Rattle.zk_messages.proofs.multi.put_ops.Given as goal

abbrev pub invariant-loop-op : goal.invariant-loop-op
invariant-loop-op l = AddsBytes l.initial.into.items l.into.items (Each SpellsOp (take l.op-index l.ops))
