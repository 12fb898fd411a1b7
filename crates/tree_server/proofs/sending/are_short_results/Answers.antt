use Rattle.std.proofs.Common.{rules, arith, subst}
use Rattle.std.proofs.lemmas.List.Elements.{All-more}
use Rattle.zk_messages.specs.Sending.{IsShortResult}
use Rattle.zk_messages.proofs.FirstRules.{all_are}
use Rattle.tree_server.proofs.sending.are_short_results.Goals as goal

pub loop-value-preserved : goal.loop-value-preserved
loop-value-preserved c =
    let short : IsShortResult c.value-item.result = search rules in
    All-more IsShortResult c.args.results.now c.loop-value.value-index c.value-item.result c.loop-value-test.true c.loop-value.invariant
    (subst IsShortResult c.value-item.is short)

pub returns : goal.returns
returns c = all_are IsShortResult _ _ c.loop-value.invariant (omega (arith, c.loop-value-test.false))
