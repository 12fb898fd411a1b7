-- What observers note.
use Rattle.std.specs.Prelude.{◌≡◌, ◌⊎◌, ℕ, List, [], ◌∷◌, ◌++◌, Option, Some, None, Result, Ok, Err, IsFalse, slice_get, if◌then◌else◌}
use Rattle.audit_board.specs.Counts.{next, is_listed}
use Rattle.reply_rewrite.specs.declared.finding.Finding.{Finding}

-- The list noted, before and after a note: after Ok it grew by this finding, and after a failure it may have. An observer
-- that does not tell has None.
abbrev pub TakesFinding : {T E : Type 0} → Option (List Finding) → Option (List Finding) → Finding → Result T E → Type 0
TakesFinding None after finding result = after ≡ None
TakesFinding (Some before) after finding (Ok _) = after ≡ Some (before ++ finding ∷ [])
TakesFinding (Some before) after finding (Err _) = (after ≡ Some before) ⊎ (after ≡ Some (before ++ finding ∷ []))

-- the finding at a place of the list, where it is told
abbrev pub given_at : Option (List Finding) → ℕ → Option Finding
given_at None place = None
given_at (Some findings) place = slice_get findings place

-- the findings noted, the notes so far, the numbers of the notes that fail, and the counts of faults: of all, and of those for want of memory
pub record ListState : Type 0 where
  pub findings : List Finding
  pub calls : ℕ
  pub fails : List ℕ
  pub faults : ℕ
  pub short : ℕ

-- What a note does to an observer in memory: one that is listed fails, another one only for want of memory, and neither then
-- keeps the finding.
abbrev pub Notes : {T E : Type 0} → Finding → ListState → ListState → Result T E → Type 0
Notes finding old new (Ok _) = IsFalse (is_listed old.fails old.calls)
    × (new ≡ record old { findings = old.findings ++ finding ∷ []; calls = next old.calls })
Notes finding old new (Err _) = new ≡ record old {
  calls = next old.calls;
  faults = next old.faults;
  short = (if is_listed old.fails old.calls then old.short else next old.short);
}
