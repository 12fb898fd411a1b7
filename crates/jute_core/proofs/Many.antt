-- Values one after another, and vectors of them.
use Rattle.std.proofs.Common.{◌≡◌, ℕ, List, [], ◌∷◌, ◌++◌, ◌+◌, ◌<◌, ◌≤◌, take, take_all, get_or, zero, suc, length, Some, None, refl, inl, inr, ◌∙◌, ap, sym, subst, append_assoc, arith, length-append}
use Rattle.std.proofs.Math.Seq.{take-suc}
use Rattle.std.proofs.lemmas.List.{append-nil}
use Rattle.jute_core.specs.Jute.{Jute, Value, Spells, Refused as IsRefused, Each, FirstRefused, IsLength, count, vector}
use Rattle.jute_core.specs.Position.{Position, Passes, PassesEach, Stops, Adds, AddsEach}
use Rattle.jute_core.specs.Records.{Fails}
use Rattle.jute_core.specs.declared.cursor.Reason.{Reason}
use Rattle.jute_core.specs.declared.cursor.Refusal.{Refusal}
use Rattle.jute_core.specs.declared.not_read.NotRead.{NotRead}
use Rattle.jute_core.specs.declared.not_read.NotRead.TheVariants.{Refused, Memory}

-- one more value behind others
pub each_then : {V : Type 0} (R : V → List ℕ → Type 0) (vs : List V) (v : V) (x y : List ℕ) → Each R vs x → R v y → Each R (vs ++ v ∷ []) (x ++ y)
each_then R [] v x y e r = (y, [], r, refl, ap (λ (l : List ℕ). l ++ y) e ∙ sym (append-nil y))
each_then R (w ∷ ws) v x y e r = (
  e.0,
  e.1 ++ y,
  e.2,
  each_then R ws v e.1 y e.3 r,
  ap (λ (l : List ℕ). l ++ y) e.4 ∙ append_assoc e.0 e.1 y,
)

pub pass_none : (t : Jute) (a : Position) → PassesEach a a t []
pass_none t a = record { bytes = []; spelled = refl; cut = refl; moved = omega arith }

pub pass_more : (t : Jute) (vs : List (Value t)) (v : Value t) (a b c : Position) → PassesEach a b t vs → Passes b c t v → PassesEach a c t (vs ++ v ∷ [])
pass_more t vs v a b c p q = record {
  bytes = p.bytes ++ q.bytes;
  spelled = each_then (Spells t) vs v p.bytes q.bytes p.spelled q.spelled;
  cut = p.cut ∙ ap (λ (l : List ℕ). p.bytes ++ l) q.cut ∙ sym (append_assoc p.bytes q.bytes c.left);
  moved = omega (arith, p.moved, q.moved, length-append p.bytes q.bytes);
}

-- a vector that is null, and one with its values behind its count
pub null_vector : (t : Jute) (a b : Position) → Passes a b count None → Passes a b (vector t) None
unfolding Spells
null_vector t a b p = record { bytes = p.bytes; spelled = p.spelled; cut = p.cut; moved = p.moved }

pub whole_vector : (t : Jute) (n : ℕ) (vs : List (Value t)) (a b c : Position) → Passes a b count (Some n) → PassesEach b c t vs → length vs ≡ n → Passes a c (vector t) (Some vs)
unfolding Spells
whole_vector t n vs a b c p q e = record {
  bytes = p.bytes ++ q.bytes;
  spelled = (p.bytes, q.bytes, subst (λ (k : ℕ). IsLength k p.bytes) (sym e) p.spelled, q.spelled, refl);
  cut = p.cut ∙ ap (λ (l : List ℕ). p.bytes ++ l) q.cut ∙ sym (append_assoc p.bytes q.bytes c.left);
  moved = omega (arith, p.moved, q.moved, length-append p.bytes q.bytes);
}

-- the count fails
pub stop_count : (t : Jute) (a : Position) (r : Refusal) → Stops a count r → Stops a (vector t) r
unfolding IsRefused
stop_count t a r h = record { refused = inl h.refused }

pub fail_count : (t : Jute) (a : Position) (e : NotRead) → Fails a count e → Fails a (vector t) e
fail_count t a (Refused r) h = record { refused = stop_count t a r h.refused }
fail_count t a Memory h = record { refused = tt }

-- a value behind others fails
first_later : {V : Type 0} (R : V → List ℕ → Type 0) (F : ℕ → List ℕ → ℕ → Reason → Type 0) (vs : List V) (n at : ℕ) (x y : List ℕ) (place : ℕ) (reason : Reason) → Each R vs x → length vs < n → F (at + length x) y place reason → FirstRefused R F n at (x ++ y) place reason
first_later R F vs zero at x y place reason e less f = omega (arith, less)
first_later R F [] (suc n) at x y place reason e less f =
    let none : at + length x ≡ at = omega (arith, ap length e) in
    inl (subst (λ (l : List ℕ). F at l place reason) (ap (λ (l : List ℕ). l ++ y) (sym e)) (subst (λ (k : ℕ). F k y place reason) none f))
first_later R F (w ∷ ws) (suc n) at x y place reason e less f =
    let far : at + length x ≡ (at + length e.0) + length e.1 = omega (arith, ap length e.4, length-append e.0 e.1) in
    inr (
      w,
      e.0,
      e.1 ++ y,
      e.2,
      ap (λ (l : List ℕ). l ++ y) e.4 ∙ append_assoc e.0 e.1 y,
      first_later R F ws n (at + length e.0) e.1 y place reason e.3 (omega (arith, less)) (subst (λ (k : ℕ). F k y place reason) far f),
    )

pub stop_item : (t : Jute) (n : ℕ) (vs : List (Value t)) (a b c : Position) (r : Refusal) → Passes a b count (Some n) → PassesEach b c t vs → length vs < n → Stops c t r → Stops a (vector t) r
unfolding Spells IsRefused
stop_item t n vs a b c r p q less h =
    let four : length p.bytes ≡ 4 = ap length p.spelled.1 in
    let at : c.place ≡ (a.place + 4) + length q.bytes = omega (arith, p.moved, q.moved, four) in
    record {
      refused = inr (
        n,
        p.bytes,
        b.left,
        p.spelled,
        p.cut,
        subst (λ (l : List ℕ). FirstRefused (Spells t) (IsRefused t) n (a.place + 4) l r.place r.reason) (sym q.cut)
            (first_later (Spells t) (IsRefused t) vs n (a.place + 4) q.bytes c.left r.place r.reason q.spelled less
            (subst (λ (k : ℕ). IsRefused t k c.left r.place r.reason) at h.refused)),
      );
    }

pub fail_item : (t : Jute) (n : ℕ) (vs : List (Value t)) (a b c : Position) (e : NotRead) → Passes a b count (Some n) → PassesEach b c t vs → length vs < n → Fails c t e → Fails a (vector t) e
fail_item t n vs a b c (Refused r) p q less h = record { refused = stop_item t n vs a b c r p q less h.refused }
fail_item t n vs a b c Memory p q less h = record { refused = tt }

-- writing them
pub add_none : (t : Jute) (a : List ℕ) → AddsEach a a t []
add_none t a = record { bytes = []; spelled = refl; added = sym (append-nil a) }

pub add_more : (t : Jute) (vs : List (Value t)) (v : Value t) (a b c : List ℕ) → AddsEach a b t vs → Adds b c t v → AddsEach a c t (vs ++ v ∷ [])
add_more t vs v a b c p q = record {
  bytes = p.bytes ++ q.bytes;
  spelled = each_then (Spells t) vs v p.bytes q.bytes p.spelled q.spelled;
  added = q.added ∙ ap (λ (l : List ℕ). l ++ q.bytes) p.added ∙ append_assoc a p.bytes q.bytes;
}

pub add_null : (t : Jute) (a b : List ℕ) → Adds a b count None → Adds a b (vector t) None
unfolding Spells
add_null t a b p = record { bytes = p.bytes; spelled = p.spelled; added = p.added }

pub add_vector : (t : Jute) (vs : List (Value t)) (a b c : List ℕ) → Adds a b count (Some (length vs)) → AddsEach b c t vs → Adds a c (vector t) (Some vs)
unfolding Spells
add_vector t vs a b c p q = record {
  bytes = p.bytes ++ q.bytes;
  spelled = (p.bytes, q.bytes, p.spelled, q.spelled, refl);
  added = q.added ∙ ap (λ (l : List ℕ). l ++ q.bytes) p.added ∙ append_assoc a p.bytes q.bytes;
}

-- the same for the values of a list, of which the first i are written
pub add_next : (t : Jute) (l : List (Value t)) (i : ℕ) (v : Value t) (a b c : List ℕ) → AddsEach a b t (take i l) → i < length l → v ≡ get_or l i v → Adds b c t v → AddsEach a c t (take (i + 1) l)
add_next t l i v a b c p less at q =
    let next : take (i + 1) l ≡ take i l ++ v ∷ [] = ap (λ (k : ℕ). take k l) (plus_one i) ∙ take-suc l i v less ∙ ap (λ (w : Value t). take i l ++ w ∷ []) (sym at) in
    subst (λ (vs : List (Value t)). AddsEach a c t vs) (sym next) (add_more t (take i l) v a b c p q)
  where
    plus_one : (k : ℕ) → k + 1 ≡ suc k
    plus_one k = omega arith

pub add_all : (t : Jute) (l : List (Value t)) (i : ℕ) (a b c : List ℕ) → Adds a b count (Some (length l)) → AddsEach b c t (take i l) → length l ≤ i → Adds a c (vector t) (Some l)
add_all t l i a b c p q le = add_vector t l a b c p (subst (λ (vs : List (Value t)). AddsEach b c t vs) (take_all i l le) q)

pub ruleset lists = (null_vector, whole_vector, stop_count, fail_item, add_null)
