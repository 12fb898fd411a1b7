-- Members that were told, one after another.
use Rattle.std.proofs.Common.{◌≡◌, ◌⊎◌, inl, inr, refl, sym, subst, ℕ, ◌≤◌, ◌+◌, List, [], ◌∷◌, ◌++◌, length}
use Rattle.std.proofs.Common.{take, drop, get_or, zero, suc, ◌<◌, ap, ◌∙◌, Option, Bool, true, false, IsTrue, IsFalse, cond, arith}
use Rattle.std.proofs.lemmas.List.{take_more}
use Rattle.std.specs.List.Retain.{RetainsInTurn}
use Rattle.reply_rewrite.specs.declared.finding.Finding.{Finding}
use Rattle.jute_core.specs.Faults.{Rose}
use Rattle.audit_board.specs.declared.board.Seat.{Seat}
use Rattle.audit_board.specs.Telling.{IsNoted, IsTold, IsToldAs, Told, AreNumbered, HasNumber}

module _ {X : Type 0} {H : X → Type 0} where
  -- The parts of a member that was told.
  pub told_as : (lists : Seat X H → Option (List Finding)) (faults : Seat X H → ℕ) (seat : Seat X H) (finding : Finding) (after : Seat X H) (stays : Bool)
      → after.number ≡ seat.number → after.member.vtable ≡ seat.member.vtable → IsNoted (lists seat) (faults seat) finding (lists after) (faults after)
      → (IsTrue stays → Rose (faults seat) (faults after) → ⊥) → (IsFalse stays → Rose (faults seat) (faults after))
      → IsToldAs lists faults seat finding after stays
  told_as lists faults seat finding after stays number same noted stayed went =
      record { told = record { number = number; same = same; noted = noted }; stayed = stayed; went = went }

  -- one member and those behind it
  one_told : (lists : Seat X H → Option (List Finding)) (faults : Seat X H → ℕ) (finding : Finding) (seat : Seat X H) (seats : List (Seat X H))
      (after : Seat X H) (rest new : List (Seat X H)) (stays : Bool) → IsToldAs lists faults seat finding after stays
      → Told lists faults seats finding rest → new ≡ cond stays (after ∷ rest) rest → Told lists faults (seat ∷ seats) finding new
  one_told lists faults finding seat seats after rest new true this others is = (after, rest, this.told, others, inr (this.stayed refl, is))
  one_told lists faults finding seat seats after rest new false this others is = (after, rest, this.told, others, inl (this.went refl, is))

  -- Going over the members in turn tells each, where a step leaves what goes over them as it was.
  pub told_in_turn : {S : Type 0} (lists : Seat X H → Option (List Finding)) (faults : Seat X H → ℕ) (finding : Finding)
      (R : S → Seat X H → Bool → S → Seat X H → Type 0) (s : S)
      → ((x : Seat X H) (b : Bool) (t : S) (y : Seat X H) → R s x b t y → IsToldAs lists faults x finding y b × (t ≡ s))
      → (xs ys : List (Seat X H)) → RetainsInTurn R s xs ys → Told lists faults xs finding ys
  told_in_turn lists faults finding R s says [] ys ran = ran
  told_in_turn lists faults finding R s says (x ∷ xs) ys (b, t, y, step, zs, ran, is) =
      let this = says x b t y step in
      one_told lists faults finding x xs y zs ys b this.0
      (told_in_turn lists faults finding R s says xs zs (subst (λ (u : _). RetainsInTurn R u xs zs) this.1 ran)) is

  -- Numbers

  pub from_lower : (low high : ℕ) (seats : List (Seat X H)) (added : ℕ) → low ≤ high → AreNumbered high seats added → AreNumbered low seats added
  from_lower low high [] added below numbered = omega (arith, below, numbered)
  from_lower low high (seat ∷ seats) added below numbered = (omega (arith, below, numbered.0), numbered.1)

  numbered_one : (lists : Seat X H → Option (List Finding)) (faults : Seat X H → ℕ) (low added : ℕ) (seat after : Seat X H) (rest new : List (Seat X H))
      → low ≤ seat.number → after.number ≡ seat.number → AreNumbered (seat.number + 1) rest added
      → ((Rose (faults seat) (faults after) × (new ≡ rest)) ⊎ ((Rose (faults seat) (faults after) → ⊥) × (new ≡ after ∷ rest)))
      → AreNumbered low new added
  numbered_one lists faults low added seat after rest new above same numbered (inl (rose, is)) =
      subst (λ (l : List (Seat X H)). AreNumbered low l added) (sym is) (from_lower low (seat.number + 1) rest added (omega (arith, above)) numbered)
  numbered_one lists faults low added seat after rest new above same numbered (inr (still, is)) =
      subst (λ (l : List (Seat X H)). AreNumbered low l added) (sym is)
      (subst (λ (n : ℕ). low ≤ n) (sym same) above, subst (λ (n : ℕ). AreNumbered (n + 1) rest added) (sym same) numbered)

  -- those that stay keep their numbers
  pub numbered_told : (lists : Seat X H → Option (List Finding)) (faults : Seat X H → ℕ) (finding : Finding) (low added : ℕ) (old new : List (Seat X H))
      → Told lists faults old finding new → AreNumbered low old added → AreNumbered low new added
  numbered_told lists faults finding low added [] new told numbered = subst (λ (l : List (Seat X H)). AreNumbered low l added) (sym told) numbered
  numbered_told lists faults finding low added (seat ∷ seats) new (after, rest, this, others, which) numbered =
      numbered_one lists faults low added seat after rest new numbered.0 this.number
      (numbered_told lists faults finding (seat.number + 1) added seats rest others numbered.1) which

  length_one : (lists : Seat X H → Option (List Finding)) (faults : Seat X H → ℕ) (seat after : Seat X H) (seats rest new : List (Seat X H))
      → length rest ≤ length seats
      → ((Rose (faults seat) (faults after) × (new ≡ rest)) ⊎ ((Rose (faults seat) (faults after) → ⊥) × (new ≡ after ∷ rest)))
      → length new ≤ length seats + 1
  length_one lists faults seat after seats rest new fewer (inl (rose, is)) =
      subst (λ (l : List (Seat X H)). length l ≤ length seats + 1) (sym is) (omega (arith, fewer))
  length_one lists faults seat after seats rest new fewer (inr (still, is)) =
      subst (λ (l : List (Seat X H)). length l ≤ length seats + 1) (sym is) (omega (arith, fewer))

  -- no more are there than before
  pub told_fewer : (lists : Seat X H → Option (List Finding)) (faults : Seat X H → ℕ) (finding : Finding) (old new : List (Seat X H))
      → Told lists faults old finding new → length new ≤ length old
  told_fewer lists faults finding [] new told = subst (λ (l : List (Seat X H)). length l ≤ 0) (sym told) (omega arith)
  told_fewer lists faults finding (seat ∷ seats) new (after, rest, this, others, which) =
      let fewer = length_one lists faults seat after seats rest new (told_fewer lists faults finding seats rest others) which in omega (arith, fewer)

  -- no more are there than were added
  pub numbered_length : (low added : ℕ) (seats : List (Seat X H)) → AreNumbered low seats added → length seats + low ≤ added
  numbered_length low added [] numbered = omega (arith, numbered)
  numbered_length low added (seat ∷ seats) numbered =
      let more = numbered_length (seat.number + 1) added seats numbered.1 in omega (arith, more, numbered.0)

  -- a member that is added gets the next number
  pub numbered_added : (low : ℕ) (seats : List (Seat X H)) (seat : Seat X H) → AreNumbered low seats seat.number
      → AreNumbered low (seats ++ seat ∷ []) (seat.number + 1)
  numbered_added low [] seat numbered = (numbered, omega arith)
  numbered_added low (first ∷ seats) seat numbered = (numbered.0, numbered_added (first.number + 1) seats seat numbered.1)

  -- those that are left keep their numbers
  pub numbered_without : (low : ℕ) (seats : List (Seat X H)) (place added : ℕ) → AreNumbered low seats added
      → AreNumbered low (take place seats ++ drop (suc place) seats) added
  numbered_without low [] zero added numbered = numbered
  numbered_without low [] (suc place) added numbered = numbered
  numbered_without low (seat ∷ seats) zero added numbered = from_lower low (seat.number + 1) seats added (omega (arith, numbered.0)) numbered.1
  numbered_without low (seat ∷ seats) (suc place) added numbered = (numbered.0, numbered_without (seat.number + 1) seats place added numbered.1)

  -- the two parts round a member
  pub parts_at : (seats : List (Seat X H)) (place : ℕ) (seat : Seat X H) → place < length seats → seat ≡ get_or seats place seat
      → seats ≡ take place seats ++ seat ∷ drop (suc place) seats
  parts_at [] place seat within is = absurd (omega (arith, within))
  parts_at (first ∷ seats) zero seat within is = ap (λ (s : Seat X H). s ∷ seats) (sym is)
  parts_at (first ∷ seats) (suc place) seat within is = ap (λ (l : List (Seat X H)). first ∷ l) (parts_at seats place seat (omega (arith, within)) is)

  -- Look-ups

  pub has_number_at : (number : ℕ) (seats : List (Seat X H)) (place : ℕ) (seat : Seat X H) → place < length seats → seat ≡ get_or seats place seat
      → seat.number ≡ number → HasNumber number seats
  has_number_at number [] place seat within is same = absurd (omega (arith, within))
  has_number_at number (first ∷ seats) zero seat within is same = inl (ap (λ (s : Seat X H). s.number) (sym is) ∙ same)
  has_number_at number (first ∷ seats) (suc place) seat within is same = inr (has_number_at number seats place seat (omega (arith, within)) is same)

  in_front : (number : ℕ) (front : List (Seat X H)) (seat : Seat X H) → HasNumber number (front ++ seat ∷ []) → HasNumber number front ⊎ (seat.number ≡ number)
  in_front number [] seat (inl same) = inr same
  in_front number [] seat (inr never) = absurd never
  in_front number (first ∷ front) seat (inl same) = inl (inl same)
  in_front number (first ∷ front) seat (inr later) = elim (in_front number front seat later) [ inl h ↦ inl (inr h) | inr h ↦ inr h ]

  -- no member up to this place has the number
  pub none_so_far : (number : ℕ) (seats : List (Seat X H)) (place : ℕ) (seat : Seat X H) → place < length seats → seat ≡ get_or seats place seat
      → (HasNumber number (take place seats) → ⊥) → (seat.number ≡ number → ⊥) → HasNumber number (take (place + 1) seats) → ⊥
  none_so_far number seats place seat within is none other has =
      let split = take_more seats place seat within in
      let here = subst (λ (l : List (Seat X H)). HasNumber number l) split has in
      let same = subst (λ (s : Seat X H). HasNumber number (take place seats ++ s ∷ [])) (sym is) here in
      elim (in_front number (take place seats) seat same) [ inl h ↦ none h | inr h ↦ other h ]
