use Rattle.std.proofs.Common.{take, ◌≡◌}
use Rattle.std.specs.Prelude.{sum_by}
use Rattle.request_rewrite.specs.Ivs.{payloads_of_op}
use Rattle.request_rewrite.proofs.veiling.payloads_of_ops.Given as goal

abbrev pub invariant-loop-op : goal.invariant-loop-op
invariant-loop-op l = l.count ≡ sum_by payloads_of_op (take l.op-index l.ops)
