-- Calls that take nothing of a frame leave a sound store sound.
use Rattle.std.proofs.Common.{◌≡◌, ℕ, Bool, true, false, cond, List, [], ◌++◌, take, drop, Option, Some, refl, sym, ap, subst, ◌∙◌, arith, append_assoc, rules}
use Rattle.std.specs.Prelude.{◌==◌}
use Rattle.std.proofs.lemmas.List.{take-append-drop}
use Rattle.store_side.specs.Past.{Past, is_over, state_of}
use Rattle.store_side.specs.Follows.{IsAdmitted, IsSound}
use Rattle.store_side.specs.Calls.{admitted_one, after_pull, with_at}

-- what a call that takes nothing says of a connection that was not admitted
pub record IsSameAt (p q : Past) (c : ℕ) : Type 0 where
  pub outside : IsAdmitted p c → ⊥
  pub told : q.told c ≡ p.told c
  pub pulled : q.pulled c ≡ p.pulled c
  pub waiting : q.waiting c ≡ p.waiting c
  pub rest : q.rests c ≡ p.rests c
  pub ending : q.endings c ≡ p.endings c

-- the order and what was told are the same, and no connection goes on that was over
pub record SameTold (p q : Past) : Type 0 where
  pub order : q.order ≡ p.order
  pub acts : q.acts ≡ p.acts
  pub naming : q.naming ≡ p.naming
  pub key : q.key ≡ p.key
  pub limit : q.limit ≡ p.limit
  pub told : (c : ℕ) → q.told c ≡ p.told c
  pub bytes : (c : ℕ) → q.pulled c ++ q.waiting c ≡ p.pulled c ++ p.waiting c
  pub goes_on : (c : ℕ) → is_over q c ≡ false → is_over p c ≡ false
  pub outside : (c : ℕ) → (IsAdmitted q c → ⊥) → IsSameAt p q c

pub sound_same : (p q : Past) → SameTold p q → IsSound p → IsSound q
unfolding state_of
sound_same p q same h = record {
  follows = record {
    legal = rw (same.naming, same.key, same.order, same.acts) h.follows.legal;
    shown = λ c. rw (same.naming, same.acts, same.told c) (h.follows.shown c);
    spelled = λ c. rw (same.told c, same.bytes c) (h.follows.spelled c);
    goes_on = λ c on. rw (same.naming, same.acts, same.order) (h.follows.goes_on c (same.goes_on c on));
  };
  within = rw (same.naming, same.acts, same.order, same.limit) h.within;
  untouched = λ c apart.
      let at = same.outside c apart in
      let before = h.untouched c at.outside in
      record {
        no_connect = rw same.order before.no_connect;
        told = at.told ∙ before.told;
        pulled = at.pulled ∙ before.pulled;
        waiting = at.waiting ∙ before.waiting;
        rest = at.rest ∙ before.rest;
        goes_on = at.ending ∙ before.goes_on;
      };
}

-- ---- what is kept at one place

other_place : (c d : ℕ) → (d ≡ c → ⊥) → (d == c) ≡ false
other_place c d apart = search rules

own_place : (c : ℕ) → (c == c) ≡ true
own_place c = search rules

pub at_own : {A : Type 0} (c : ℕ) (x : A) (f : ℕ → A) → with_at c x f c ≡ x
unfolding with_at
at_own c x f = ap (λ (b : Bool). cond b x (f c)) (own_place c)

pub at_other : {A : Type 0} (c d : ℕ) (x : A) (f : ℕ → A) → (d ≡ c → ⊥) → with_at c x f d ≡ f d
unfolding with_at
at_other c d x f apart = ap (λ (b : Bool). cond b x (f d)) (other_place c d apart)

pub apart_from : (p : Past) (c d : ℕ) → IsAdmitted p c → (IsAdmitted p d → ⊥) → d ≡ c → ⊥
apart_from p c d inside outside same = outside (subst (λ (x : ℕ). IsAdmitted p x) (sym same) inside)

-- ---- the calls

pub sound_admitted : (p : Past) → IsSound p → IsSound (admitted_one p)
sound_admitted p h = sound_same p (admitted_one p) (record {
  order = refl;
  acts = refl;
  naming = refl;
  key = refl;
  limit = refl;
  told = λ c. refl;
  bytes = λ c. refl;
  goes_on = λ c on. on;
  outside = λ c apart. record {
    outside = λ inside. apart (record { from = inside.from; below = omega (arith, inside.below) });
    told = refl;
    pulled = refl;
    waiting = refl;
    rest = refl;
    ending = refl;
  };
}) h

-- the bytes pulled and those that wait are the same as before a pull
moved_bytes : (n : ℕ) (before waiting : List ℕ) → (before ++ take n waiting) ++ drop n waiting ≡ before ++ waiting
moved_bytes n before waiting = append_assoc before (take n waiting) (drop n waiting) ∙ ap (λ (x : List ℕ). before ++ x) (take-append-drop n waiting)

pulled_bytes : (c d n : ℕ) (p : Past) (b : Bool) → (b ≡ true → d ≡ c) → cond b (p.pulled c ++ take n (p.waiting c)) (p.pulled d) ++ cond b (drop n (p.waiting c)) (p.waiting d) ≡ p.pulled d ++ p.waiting d
pulled_bytes c d n p true same = moved_bytes n (p.pulled c) (p.waiting c) ∙ ap (λ (x : ℕ). p.pulled x ++ p.waiting x) (sym (same refl))
pulled_bytes c d n p false same = refl

same_place : (c d : ℕ) → (d == c) ≡ true → d ≡ c
same_place c d h = search rules

pub sound_pulled : (p : Past) (c n : ℕ) → IsSound p → IsAdmitted p c → IsSound (after_pull c n p)
unfolding after_pull with_at
sound_pulled p c n h inside = sound_same p (after_pull c n p) (record {
  order = refl;
  acts = refl;
  naming = refl;
  key = refl;
  limit = refl;
  told = λ d. refl;
  bytes = λ d. pulled_bytes c d n p (d == c) (same_place c d);
  goes_on = λ d on. on;
  outside = λ d apart.
      let outside : IsAdmitted p d → ⊥ = λ at. apart (record { from = at.from; below = at.below }) in
      let other = apart_from p c d inside outside in
      record { outside = outside; told = refl; pulled = at_other c d (p.pulled c ++ take n (p.waiting c)) p.pulled other; waiting = at_other c d (drop n (p.waiting c)) p.waiting other; rest = refl; ending = refl };
}) h
