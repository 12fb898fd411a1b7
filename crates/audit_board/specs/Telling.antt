-- What it is to tell a board a finding.
use Rattle.std.specs.Prelude.{◌≡◌, ◌⊎◌, ℕ, ◌≤◌, ◌<◌, ◌+◌, List, [], ◌∷◌, ◌++◌, length, Option, Some, None, Result, Bool, IsTrue, IsFalse, slice_index_or}
use Rattle.std.proofs.Props.{props}
use Rattle.jute_core.specs.Faults.{HasCause, Rose}
use Rattle.reply_rewrite.specs.declared.finding.Finding.{Finding}
use Rattle.audit_board.specs.Observers.{TakesFinding}
use Rattle.audit_board.specs.declared.sinks.Failed.{Failed}
use Rattle.audit_board.specs.declared.board.Seat.{Seat}

-- A note of this finding, by what was noted and how often a note failed, before and after.
pub record IsNoted (list : Option (List Finding)) (faults : ℕ) (finding : Finding) (list_after : Option (List Finding)) (faults_after : ℕ) : Type 0 where
  pub answer : Result (Unit {0}) Failed
  pub takes : TakesFinding list list_after finding answer
  pub cause : HasCause faults faults_after answer

module _ {X : Type 0} {H : X → Type 0} where
  -- A member was told: it keeps its number and what it is, and had a note of this finding.
  pub record IsTold (lists : Seat X H → Option (List Finding)) (faults : Seat X H → ℕ) (seat : Seat X H) (finding : Finding) (after : Seat X H) : Type 0 where
    pub number : after.number ≡ seat.number
    pub same : after.member.vtable ≡ seat.member.vtable
    pub noted : IsNoted (lists seat) (faults seat) finding (lists after) (faults after)

  -- the same, and whether the member stays: exactly where its count did not rise
  pub record IsToldAs (lists : Seat X H → Option (List Finding)) (faults : Seat X H → ℕ) (seat : Seat X H) (finding : Finding)
      (after : Seat X H) (stays : Bool) : Type 0 where
    pub told : IsTold lists faults seat finding after
    pub stayed : IsTrue stays → Rose (faults seat) (faults after) → ⊥
    pub went : IsFalse stays → Rose (faults seat) (faults after)

  -- The members of a board after it was told a finding: each had a note of it, and stays, as it then is and in its place, exactly where its
  -- count did not rise. `lists` and `faults` are what a member notes, where it tells that, and how often a note failed.
  abbrev pub Told : (Seat X H → Option (List Finding)) → (Seat X H → ℕ) → List (Seat X H) → Finding → List (Seat X H) → Type 0
  Told lists faults [] finding new = new ≡ []
  Told lists faults (seat ∷ seats) finding new = (after : Seat X H) × (rest : List (Seat X H))
      × IsTold lists faults seat finding after
      × Told lists faults seats finding rest
      × ((Rose (faults seat) (faults after) × (new ≡ rest)) ⊎ ((Rose (faults seat) (faults after) → ⊥) × (new ≡ after ∷ rest)))

  -- The numbers ascend from this one on, and are below the number of those that were added.
  abbrev pub AreNumbered : ℕ → List (Seat X H) → ℕ → Type 0
  AreNumbered low [] added = low ≤ added
  AreNumbered low (seat ∷ seats) added = (low ≤ seat.number) × AreNumbered (seat.number + 1) seats added

  pub AreNumbered-prop : (low : ℕ) (seats : List (Seat X H)) (added : ℕ) → IsProp (AreNumbered low seats added)
  AreNumbered-prop low [] added = Prim.hlevel props
  AreNumbered-prop low (seat ∷ seats) added = let rest = AreNumbered-prop (seat.number + 1) seats added in Prim.hlevel (props, rest)

  -- the member at this place has this number
  abbrev pub HasNumberAt : ℕ → List (Seat X H) → ℕ → Type 0
  HasNumberAt number seats place = (place < length seats) × ((seat : Seat X H) → (slice_index_or seats place seat).number ≡ number)

  -- a member has this number
  abbrev pub HasNumber : ℕ → List (Seat X H) → Type 0
  HasNumber number [] = ⊥
  HasNumber number (seat ∷ seats) = (seat.number ≡ number) ⊎ HasNumber number seats

  -- The member of this number was taken out, and the others stand as they did.
  pub record IsWithout {M : Type 0} (box : Seat X H → M) (number : ℕ) (member : M) (old new : List (Seat X H)) : Type 0 where
    pub front : List (Seat X H)
    pub seat : Seat X H
    pub back : List (Seat X H)
    pub was : old ≡ front ++ seat ∷ back
    pub now : new ≡ front ++ back
    pub numbered : seat.number ≡ number
    pub handed : member ≡ box seat
