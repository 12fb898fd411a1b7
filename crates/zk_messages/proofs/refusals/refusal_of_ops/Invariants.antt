use Rattle.std.proofs.Common.{ℤ, drop, Option}
use Rattle.zk_messages.specs.Refuses.{RefusesOps}
use Rattle.zk_messages.proofs.refusals.refusal_of_ops.Given as goal

abbrev pub invariant-loop-op : goal.invariant-loop-op
invariant-loop-op l = (outcome : Option ℤ) → RefusesOps (drop l.op-index l.ops) outcome → RefusesOps l.ops outcome
