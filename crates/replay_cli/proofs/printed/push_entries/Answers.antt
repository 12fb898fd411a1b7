use Rattle.std.proofs.Common.{◌++◌, List, ℕ, take, ap, sym, ◌∙◌, append_assoc}
use Rattle.std.specs.Prelude.{string_bytes}
use Rattle.std.proofs.lemmas.List.{take_more}
use Rattle.replay_cli.specs.Printed.{entry_text, entries_text}
use Rattle.replay_cli.proofs.PrintedLemmas.{entries_more, no_entries}
use Rattle.replay_cli.proofs.printed.push_entries.Goals as goal

pub loop-entry-init : goal.loop-entry-init
loop-entry-init c = no_entries _

pub loop-entry-preserved : goal.loop-entry-preserved
loop-entry-preserved c =
    let more = take_more c.args.order.now c.loop-entry.entry-index c.entry-item.result c.loop-entry-test.true in
    let upto = rw (← c.entry-item.is) at more in
    c.in_ok-push_entry.ensures ∙ ap (λ (l : List ℕ). l ++ entry_text c.entry-item.result) c.loop-entry.invariant
    ∙ append_assoc _ (entries_text (take c.loop-entry.entry-index c.args.order.now)) (entry_text c.entry-item.result)
    ∙ ap (λ (l : List ℕ). string_bytes c.args.into.now ++ l) (sym (ap entries_text upto ∙ entries_more (take c.loop-entry.entry-index c.args.order.now) c.entry-item.result))
