use Rattle.zk_messages.specs.Multi.{SpellsResult, IsEnd}
use Rattle.zk_messages.proofs.Reaching.{reach_more, reach_end}
use Rattle.zk_messages.proofs.multi.read_results.Goals as goal

pub loop-results-preserved : goal.loop-results-preserved
loop-results-preserved c =
    let next = rw c.in-Some.is at c.in_ok-result.ensures.some in
    rw c.in_ok-push.ensures.items (reach_more SpellsResult _ _ _ _ _ c.loop-results.invariant next)

pub returns-clause-ok : goal.returns-clause-ok
returns-clause-ok c =
    let last = rw c.in_default.is at c.in_ok-result.ensures.end in
    rw c.of.ensures (reach_end SpellsResult IsEnd _ _ _ _ c.loop-results.invariant last)
