-- A value that is all of a list, as a record is all of its frame.
use Rattle.std.specs.Prelude.{◌≡◌, ◌⊎◌, ℕ, ◌<◌, List, ◌++◌, length, Result, Ok, Err}
use Rattle.jute_core.specs.Jute.{Jute, Value, Spells, Refused}
use Rattle.jute_core.specs.Records.{IfRefused}
use Rattle.jute_core.specs.declared.cursor.Reason.{Reason}
use Rattle.jute_core.specs.declared.cursor.Reason.TheVariants.{Trailing}
use Rattle.jute_core.specs.declared.not_read.NotRead.{NotRead}

-- bytes follow the value
abbrev pub IsTrailing : Jute → List ℕ → ℕ → Reason → Type 0
IsTrailing t b place reason = (v : Value t) × (x y : List ℕ) × Spells t v x × (b ≡ x ++ y) × (0 < length y) × (place ≡ length x) × (reason ≡ Trailing)

-- the list is no value of the type: its first field that fails does so at this place, or bytes
-- follow the last one
unfoldable pub RefusedWhole : Jute → List ℕ → ℕ → Reason → Type 0
RefusedWhole t b place reason = Refused t 0 b place reason ⊎ IsTrailing t b place reason

-- why a whole list was not read
pub record FailsWhole (body : List ℕ) (t : Jute) (e : NotRead) : Type 0 where
  pub refused : IfRefused e (λ refusal. RefusedWhole t body refusal.place refusal.reason)

-- what the reader of a whole list answers: the value that it spells, or where and how it spells
-- none, or there was no memory
abbrev pub ReadsWhole : List ℕ → (t : Jute) → {V : Type 0} → (V → Value t) → Result V NotRead → Type 0
ReadsWhole body t view (Ok v) = Spells t (view v) body
ReadsWhole body t view (Err e) = FailsWhole body t e
