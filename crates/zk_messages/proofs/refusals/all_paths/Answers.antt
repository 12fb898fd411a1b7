use Rattle.std.proofs.Common.{rules, arith, subst}
use Rattle.std.proofs.lemmas.List.Elements.{All-more}
use Rattle.zk_path.specs.Paths.{IsPathText}
use Rattle.zk_messages.proofs.FirstRules.{not_all, all_are}
use Rattle.zk_messages.proofs.refusals.all_paths.Goals as goal

pub returns-then-not-is_path : goal.returns-then-not-is_path
returns-then-not-is_path c =
    let other : IsPathText c.text-item.result → ⊥ = search rules in
    not_all IsPathText _ _ _ c.loop-text-test.true c.text-item.is other

pub loop-text-preserved : goal.loop-text-preserved
loop-text-preserved c =
    let path : IsPathText c.text-item.result = search rules in
    All-more IsPathText c.args.texts.now c.loop-text.text-index c.text-item.result c.loop-text-test.true c.loop-text.invariant (subst IsPathText c.text-item.is path)

pub returns : goal.returns
returns c = all_are IsPathText _ _ c.loop-text.invariant (omega (arith, c.loop-text-test.false))
