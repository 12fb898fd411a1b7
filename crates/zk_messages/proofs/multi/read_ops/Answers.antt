use Rattle.zk_messages.specs.Multi.{SpellsOp, IsEnd}
use Rattle.zk_messages.proofs.Reaching.{reach_more, reach_end}
use Rattle.zk_messages.proofs.multi.read_ops.Goals as goal

pub loop-ops-preserved : goal.loop-ops-preserved
loop-ops-preserved c =
    let next = rw c.in-Some.is at c.in_ok-op.ensures.some in
    rw c.in_ok-push.ensures.items (reach_more SpellsOp _ _ _ _ _ c.loop-ops.invariant next)

pub returns-clause-ok : goal.returns-clause-ok
returns-clause-ok c =
    let last = rw c.in_default.is at c.in_ok-op.ensures.end in
    rw c.of.ensures (reach_end SpellsOp IsEnd _ _ _ _ c.loop-ops.invariant last)
