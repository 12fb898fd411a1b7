use Rattle.request_rewrite.proofs.Ivs.{at_start, one_op_more}
use Rattle.request_rewrite.proofs.ops.veil_ops.Goals as goal

pub loop-op-init : goal.loop-op-init
loop-op-init c = rw (c.in_ok-veiled.ensures.items, c.in_ok-asked.ensures.items) (at_start _ _)

pub loop-op-preserved : goal.loop-op-preserved
loop-op-preserved c =
    let more = one_op_more _ _ _ _ _ _ _ _ _ _ c.loop-op-test.true c.op-item.is c.loop-op.invariant c.in_ok-both.ensures.veiled c.in_ok-both.ensures.asked in
    rw (c.in_ok-push.ensures.items, c.in_ok-push-2.ensures.items, c.payloads_of_op-used.ensures) more
