use Rattle.std.proofs.Common.{◌<◌, ◌^◌, length, rules, arith, subst}
use Rattle.std.proofs.lemmas.List.Elements.{All-more}
use Rattle.zk_messages.proofs.FirstRules.{all_are}
use Rattle.tree_server.proofs.sending.are_short_texts.Goals as goal

pub loop-text-preserved : goal.loop-text-preserved
loop-text-preserved c =
    let short : length c.text-item.result < 2 ^ 31 = search rules in
    All-more (λ t. length t < 2 ^ 31) c.args.texts.now c.loop-text.text-index c.text-item.result c.loop-text-test.true c.loop-text.invariant
    (subst (λ t. length t < 2 ^ 31) c.text-item.is short)

pub returns : goal.returns
returns c = all_are (λ t. length t < 2 ^ 31) _ _ c.loop-text.invariant (omega (arith, c.loop-text-test.false))
