use Rattle.std.proofs.Common.{take}
use Rattle.request_rewrite.proofs.Ivs.{SoFar}
use Rattle.request_rewrite.proofs.ops.veil_ops.Given as goal

abbrev pub invariant-loop-op : goal.invariant-loop-op
invariant-loop-op l = SoFar l.keys l.ivs (take l.op-index l.ops) l.veiled.items l.asked.items l.used
