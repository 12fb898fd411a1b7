use Rattle.std.proofs.Common.{arith}
use Rattle.zk_messages.specs.Multi.{multi_header, SpellsOp, IsEnd}
use Rattle.zk_messages.proofs.Reaching.{add_as, add_next_of, add_end}
use Rattle.zk_messages.proofs.multi.put_ops.Goals as goal

pub loop-op-preserved : goal.loop-op-preserved
loop-op-preserved c = add_next_of SpellsOp _ _ _ _ _ _ c.loop-op.invariant c.loop-op-test.true c.op-item.is c.in_ok-put_op.ensures.ok

pub returns-clause-ok : goal.returns-clause-ok
returns-clause-ok c =
    let last = add_as multi_header _ _ _ c.in_ok-put.ensures.ok in
    add_end SpellsOp IsEnd _ _ _ _ _ c.loop-op.invariant (omega (arith, c.loop-op-test.false)) last
