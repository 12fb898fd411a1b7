use Rattle.std.proofs.Common.{arith}
use Rattle.zk_messages.specs.Multi.{SpellsResult}
use Rattle.store_side.proofs.Counted.{count_next}
use Rattle.store_side.proofs.CountedReplies.{count_results}
use Rattle.store_side.proofs.sizes.results_length.Goals as goal

pub loop-value-preserved : goal.loop-value-preserved
loop-value-preserved c =
    count_next SpellsResult _ _ _ _ _ _ c.loop-value.invariant c.loop-value-test.true c.value-item.is c.result_length.ensures
    c.saturating_add-total.ensures

pub returns : goal.returns
returns c = count_results _ _ _ _ c.loop-value.invariant (omega (arith, c.loop-value-test.false)) c.saturating_add.ensures
