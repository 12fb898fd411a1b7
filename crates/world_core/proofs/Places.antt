-- The connection of a number, and what a change of one leaves.
use Rattle.std.proofs.Common.{◌≡◌, ℕ, zero, suc, ◌<◌, ◌≤◌, ◌^◌, List, [], ◌∷◌, length, get_or, set, slice_get, Vec, Some, None, true, false, refl, sym, ap, ◌∙◌, subst, inl, inr, arith}
use Rattle.std.specs.Global.{Global}
use Rattle.std.proofs.lemmas.Bool.{cases_lt, false≢true}
use Rattle.std.proofs.lemmas.List.{length-set}
use Rattle.std.proofs.lemmas.Option.{slice_get_past, slice_get_read, none-some}
use Rattle.store_side.specs.Follows.{IsAdmitted}
use Rattle.store_side.specs.Past.{Past}
use Rattle.world_core.specs.declared.connection.Connection.{Connection}
use Rattle.world_core.specs.Standing.{IsPlace, connection_at}

-- ---- the connection of a number

few : (v : Vec Connection Global) → length v.items < 2 ^ 63
few v = omega (arith, v.ok.0, v.ok.1, v.small)

next_place : (c i : ℕ) → IsPlace c i → i < 2 ^ 63 → c ≡ suc i
next_place c i p h = omega (arith, p.at h)

connection_there : (xs : List Connection) (c i : ℕ) (x : Connection) → IsPlace c i → length xs < 2 ^ 63 → i < length xs → x ≡ get_or xs i x
    → connection_at xs c ≡ Some x
unfolding connection_at
connection_there xs c i x p few within is =
    subst (λ (k : ℕ). connection_at xs k ≡ Some x) (sym (next_place c i p (omega arith))) (slice_get_read xs (length xs) i x refl within is)

none_there : (xs : List Connection) (i : ℕ) → slice_get xs i ≡ None → i < length xs → ⊥
none_there [] i h k = omega (arith, k)
none_there (x ∷ xs) zero h k = none-some x (sym h)
none_there (x ∷ xs) (suc i) h k = none_there xs i h (omega (arith, k))

-- each admitted connection has one
pub not_none : (xs : List Connection) (past : Past) (c : ℕ) → length xs ≡ past.admitted → IsAdmitted past c → connection_at xs c ≡ None → ⊥
unfolding connection_at
not_none xs past zero e a h = omega (arith, a.from)
not_none xs past (suc i) e a h = none_there xs i h (omega (arith, a.below, e))

connection_missing : (xs : List Connection) (c i : ℕ) → IsPlace c i → length xs < 2 ^ 63 → length xs ≤ i → connection_at xs c ≡ None
unfolding connection_at
connection_missing xs zero i p few over = refl
connection_missing xs (suc j) i p few over =
    slice_get_past xs j (elim (cases_lt i (2 ^ 63)) [ inl h ↦ omega (arith, p.at h, over) | inr h ↦ absurd (omega (arith, p.none h)) ])

pub found_none : (v : Vec Connection Global) (past : Past) (c i : ℕ) → IsPlace c i → (i < v.len → false ≡ true) → length v.items ≡ past.admitted → IsAdmitted past c → ⊥
found_none v past c i p h e a =
    not_none v.items past c e a (connection_missing v.items c i p (few v) (elim (cases_lt i v.len) [ inl k ↦ absurd (false≢true (h k)) | inr k ↦ omega (arith, v.ok.0) ]))

-- ---- one connection is another now

pub record Sets (old new : List Connection) (c : ℕ) (x y : Connection) : Type 0 where
  pub was : connection_at old c ≡ Some x
  pub size : length new ≡ length old
  pub now : connection_at new c ≡ Some y
  pub others : (d : ℕ) → (d ≡ c → ⊥) → connection_at new d ≡ connection_at old d

set_there : (xs : List Connection) (i : ℕ) (y : Connection) → i < length xs → slice_get (set xs i y) i ≡ Some y
set_there [] i y h = absurd (omega (arith, h))
set_there (x ∷ xs) zero y h = refl
set_there (x ∷ xs) (suc i) y h = set_there xs i y (omega (arith, h))

set_elsewhere : (xs : List Connection) (i j : ℕ) (y : Connection) → (j ≡ i → ⊥) → slice_get (set xs i y) j ≡ slice_get xs j
set_elsewhere [] i j y h = refl
set_elsewhere (x ∷ xs) zero zero y h = absurd (h refl)
set_elsewhere (x ∷ xs) zero (suc j) y h = refl
set_elsewhere (x ∷ xs) (suc i) zero y h = refl
set_elsewhere (x ∷ xs) (suc i) (suc j) y h = set_elsewhere xs i j y (λ e. h (ap suc e))

connection_set : (xs : List Connection) (c i : ℕ) (x y : Connection) → IsPlace c i → length xs < 2 ^ 63 → i < length xs → x ≡ get_or xs i x
    → Sets xs (set xs i y) c x y
unfolding connection_at
connection_set xs c i x y p few within is =
    let e : c ≡ suc i = next_place c i p (omega arith) in
    record {
      was = connection_there xs c i x p few within is;
      size = length-set xs i y;
      now = subst (λ (k : ℕ). connection_at (set xs i y) k ≡ Some y) (sym e) (set_there xs i y within);
      others = others e;
    }
  where
    others : c ≡ suc i → (d : ℕ) → (d ≡ c → ⊥) → connection_at (set xs i y) d ≡ connection_at xs d
    others e zero h = refl
    others e (suc j) h = set_elsewhere xs i j y (λ k. h (ap suc k ∙ sym e))

pub vec_set : (v : Vec Connection Global) (c i : ℕ) (x y : Connection) → IsPlace c i → i < v.len → x ≡ get_or v.items i x → Sets v.items (set v.items i y) c x y
vec_set v c i x y p within is = connection_set v.items c i x y p (few v) (omega (arith, v.ok.0)) is

pub same_vec : (xs : List Connection) (c : ℕ) (x : Connection) → connection_at xs c ≡ Some x → Sets xs xs c x x
same_vec xs c x h = record { was = h; size = refl; now = h; others = λ d k. refl }
