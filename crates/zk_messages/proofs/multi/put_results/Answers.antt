use Rattle.std.proofs.Common.{arith}
use Rattle.zk_messages.specs.Multi.{multi_header, SpellsResult, IsEnd}
use Rattle.zk_messages.proofs.Reaching.{add_as, add_next_of, add_end}
use Rattle.zk_messages.proofs.multi.put_results.Goals as goal

pub loop-value-preserved : goal.loop-value-preserved
loop-value-preserved c = add_next_of SpellsResult _ _ _ _ _ _ c.loop-value.invariant c.loop-value-test.true c.value-item.is c.in_ok-put_result.ensures.ok

pub returns-clause-ok : goal.returns-clause-ok
returns-clause-ok c =
    let last = add_as multi_header _ _ _ c.in_ok-put.ensures.ok in
    add_end SpellsResult IsEnd _ _ _ _ _ c.loop-value.invariant (omega (arith, c.loop-value-test.false)) last
