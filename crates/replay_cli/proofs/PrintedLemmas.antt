-- Printed texts that are joined.
use Rattle.std.proofs.Common.{◌≡◌, ℕ, List, [], ◌∷◌, ◌++◌, sym, ap, ◌∙◌, append_assoc}
use Rattle.std.proofs.lemmas.List.{append-nil}
use Rattle.store_side.specs.declared.entry.Entry.{Entry}
use Rattle.replay_cli.specs.Printed.{entry_text, entries_text}

pub entries_more : (entries : List Entry) (entry : Entry) → entries_text (entries ++ entry ∷ []) ≡ entries_text entries ++ entry_text entry
unfolding entries_text
entries_more [] entry = append-nil (entry_text entry)
entries_more (first ∷ entries) entry = ap (λ (l : List ℕ). entry_text first ++ l) (entries_more entries entry) ∙ sym (append_assoc (entry_text first) (entries_text entries) (entry_text entry))

pub no_entries : (before : List ℕ) → before ≡ before ++ entries_text []
unfolding entries_text
no_entries before = sym (append-nil before)
