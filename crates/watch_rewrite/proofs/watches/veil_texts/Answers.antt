use Rattle.std.proofs.Common.{arith, subst, sym, ◌∙◌}
use Rattle.std.proofs.lemmas.List.Elements.{All-get_or, all_zip_more}
use Rattle.zk_path.specs.Paths.{IsPathText}
use Rattle.watch_rewrite.specs.Watches.{SealsText}
use Rattle.watch_rewrite.proofs.watches.veil_texts.Goals as goal

pub veil_text-requires-clause-legal : goal.veil_text-requires-clause-legal
veil_text-requires-clause-legal c =
    let legal = All-get_or IsPathText c.args.texts.now c.loop-text.text-index _ (omega (arith, c.loop-text-test.true)) c.requires.legal in
    subst IsPathText (sym c.text-item.is ∙ sym c.as_str.ensures) legal

pub loop-text-preserved : goal.loop-text-preserved
loop-text-preserved c =
    let sealed = rw c.as_str.ensures at c.in_ok-veil_text.ensures in
    rw c.in_ok-push.ensures.items (all_zip_more (SealsText c.args.keys.now) _ _ _ _ _ (omega (arith, c.loop-text-test.true)) c.text-item.is c.loop-text.invariant sealed)
