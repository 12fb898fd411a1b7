use Rattle.std.proofs.Common.{◌≡◌, ◌∙◌, ℕ, length, subst, arith}
use Rattle.std.proofs.lemmas.List.{get_or_default}
use Rattle.reply_rewrite.specs.Children.{AreGoodBefore, AreOpened}
use Rattle.reply_rewrite.proofs.Opening.{known_first, one_more}
use Rattle.reply_rewrite.proofs.children.opened_set.Goals as goal

pub returns-in-Known-clause-cause : goal.returns-in-Known-clause-cause
returns-in-Known-clause-cause c =
    let turn = rw c.in-Known.is at c.in_ok-add_opened.ensures in
    known_first _ _ _ _ _ _ c.loop-index-test.true c.loop-index.invariant.good c.loop-index.invariant.opened (c.index-stored-index.is ∙ get_or_default _ _ _ _ c.loop-index-test.true) turn

pub loop-index-preserved : goal.loop-index-preserved
loop-index-preserved c =
    let turn = rw c.in-New.is at c.in_ok-add_opened.ensures in
    let both = one_more _ _ _ _ _ _ _ c.are_keys.ensures c.loop-index.invariant.good c.loop-index.invariant.opened (c.index-stored-index.is ∙ get_or_default _ _ _ _ c.loop-index-test.true) turn in
    record { good = both.0; opened = both.1 }

pub returns-clause-good : goal.returns-clause-good
returns-clause-good c =
    let whole : c.loop-index.index ≡ length c.args.stored.now = omega (arith, c.loop-index-test.false, c.loop-index.auto.index-end) in
    subst (λ (n : ℕ). AreGoodBefore c.args.keys.now c.args.path.now c.args.stored.now n) whole c.loop-index.invariant.good

pub returns-clause-opened : goal.returns-clause-opened
returns-clause-opened c =
    let whole : c.loop-index.index ≡ length c.args.stored.now = omega (arith, c.loop-index-test.false, c.loop-index.auto.index-end) in
    subst (λ (n : ℕ). AreOpened c.args.keys.now c.args.path.now c.args.stored.now n c.loop-index.names) whole c.loop-index.invariant.opened
