-- Where the line of a connection stands, and what a change of one leaves.
use Rattle.std.proofs.Common.{◌≡◌, ◌⊎◌, ℕ, zero, suc, ◌+◌, ◌<◌, ◌≤◌, ◌^◌, List, [], ◌∷◌, ◌++◌, length, get_or, set, slice_get, Vec, Option, Some, None, Bool, true, false, cond, refl, sym, ap, ◌∙◌, subst, inl, inr, arith}
use Rattle.std.specs.Global.{Global}
use Rattle.std.specs.Option.{option_map_or, option_and_then}
use Rattle.std.proofs.lemmas.Bool.{cases_eq, cases_lt, false≢true, eq-eqb, ne_eqb}
use Rattle.std.proofs.lemmas.List.{length-set}
use Rattle.std.proofs.lemmas.Option.{slice_get_past, slice_get_within, slice_get_read, none-some}
use Rattle.store_side.specs.Calls.{with_at}
use Rattle.store_side.specs.Follows.{IsAdmitted}
use Rattle.store_side.specs.Past.{Past}
use Rattle.tree_server.specs.declared.lines.Line.{Line}
use Rattle.tree_server.specs.Connections.{line_at, IsPlace, ending_of, held_by, waiting_at, rest_at, ending_at}

-- ---- a vector of lines

pub few_lines : (v : Vec Line Global) → length v.items < 2 ^ 63
few_lines v = omega (arith, v.ok.0, v.ok.1, v.small)

pub within_vec : (v : Vec Line Global) (i : ℕ) → i < v.len → i < length v.items
within_vec v i h = omega (arith, v.ok.0)

pub past_vec : (v : Vec Line Global) (i : ℕ) → (i < v.len → false ≡ true) → length v.items ≤ i
past_vec v i h = elim (cases_lt i v.len) [ inl k ↦ absurd (false≢true (h k)) | inr k ↦ omega (arith, v.ok.0) ]

-- ---- the line at a place

next_place : (c i : ℕ) → IsPlace c i → i < 2 ^ 63 → c ≡ suc i
next_place c i p h = omega (arith, p.at h)

pub line_there : (ls : List Line) (c i : ℕ) (l : Line) → IsPlace c i → length ls < 2 ^ 63 → i < length ls → l ≡ get_or ls i l
    → line_at ls c ≡ Some l
unfolding line_at
line_there ls c i l p few within is =
    subst (λ (k : ℕ). line_at ls k ≡ Some l) (sym (next_place c i p (omega arith))) (slice_get_read ls (length ls) i l refl within is)

pub line_missing : (ls : List Line) (c i : ℕ) → IsPlace c i → length ls < 2 ^ 63 → length ls ≤ i → line_at ls c ≡ None
unfolding line_at
line_missing ls zero i p few over = refl
line_missing ls (suc j) i p few over =
    slice_get_past ls j (elim (cases_lt i (2 ^ 63)) [ inl h ↦ omega (arith, p.at h, over) | inr h ↦ absurd (omega (arith, p.none h)) ])

pub line_read : (v : Vec Line Global) (xs : List Line) (c i : ℕ) (l : Line) → xs ≡ v.items → IsPlace c i → i < length xs
    → l ≡ get_or xs i l → line_at v.items c ≡ Some l
line_read v xs c i l e p within is =
    subst (λ (ys : List Line). line_at ys c ≡ Some l) e (line_there xs c i l p (omega (arith, ap length e, few_lines v)) within is)

pub line_not_read : (v : Vec Line Global) (xs : List Line) (c i : ℕ) → xs ≡ v.items → IsPlace c i → length xs ≤ i → line_at v.items c ≡ None
line_not_read v xs c i e p over = line_missing v.items c i p (few_lines v) (omega (arith, ap length e, over))

-- ---- one line is another now

pub record Sets (old new : List Line) (c : ℕ) (l m : Line) : Type 0 where
  pub was : line_at old c ≡ Some l
  pub size : length new ≡ length old
  pub now : line_at new c ≡ Some m
  pub others : (d : ℕ) → (d ≡ c → ⊥) → line_at new d ≡ line_at old d

set_there : (ls : List Line) (i : ℕ) (m : Line) → i < length ls → slice_get (set ls i m) i ≡ Some m
set_there [] i m h = absurd (omega (arith, h))
set_there (l ∷ ls) zero m h = refl
set_there (l ∷ ls) (suc i) m h = set_there ls i m (omega (arith, h))

set_elsewhere : (ls : List Line) (i j : ℕ) (m : Line) → (j ≡ i → ⊥) → slice_get (set ls i m) j ≡ slice_get ls j
set_elsewhere [] i j m h = refl
set_elsewhere (l ∷ ls) zero zero m h = absurd (h refl)
set_elsewhere (l ∷ ls) zero (suc j) m h = refl
set_elsewhere (l ∷ ls) (suc i) zero m h = refl
set_elsewhere (l ∷ ls) (suc i) (suc j) m h = set_elsewhere ls i j m (λ e. h (ap suc e))

pub line_set : (ls : List Line) (c i : ℕ) (l m : Line) → IsPlace c i → length ls < 2 ^ 63 → i < length ls → l ≡ get_or ls i l
    → Sets ls (set ls i m) c l m
unfolding line_at
line_set ls c i l m p few within is =
    let e : c ≡ suc i = next_place c i p (omega arith) in
    record {
      was = line_there ls c i l p few within is;
      size = length-set ls i m;
      now = subst (λ (k : ℕ). line_at (set ls i m) k ≡ Some m) (sym e) (set_there ls i m within);
      others = others e;
    }
  where
    others : c ≡ suc i → (d : ℕ) → (d ≡ c → ⊥) → line_at (set ls i m) d ≡ line_at ls d
    others e zero h = refl
    others e (suc j) h = set_elsewhere ls i j m (λ k. h (ap suc k ∙ sym e))

-- of a vector
pub vec_line : (v : Vec Line Global) (c i : ℕ) (l : Line) → IsPlace c i → i < v.len → l ≡ get_or v.items i l → line_at v.items c ≡ Some l
vec_line v c i l p within is = line_there v.items c i l p (few_lines v) (within_vec v i within) is

pub vec_set : (v : Vec Line Global) (c i : ℕ) (l m : Line) → IsPlace c i → i < v.len → l ≡ get_or v.items i l
    → Sets v.items (set v.items i m) c l m
vec_set v c i l m p within is = line_set v.items c i l m p (few_lines v) (within_vec v i within) is

-- ---- no line, and one more

pub no_line : (ls : List Line) (c : ℕ) → ls ≡ [] → line_at ls c ≡ None
unfolding line_at
no_line ls zero e = refl
no_line ls (suc i) e = ap (λ (l : List Line). slice_get l i) e

pub line_more : (ls : List Line) (m : Line) (c : ℕ) → ((c ≡ length ls + 1) × (line_at (ls ++ m ∷ []) c ≡ Some m) × (line_at ls c ≡ None)) ⊎
    (line_at (ls ++ m ∷ []) c ≡ line_at ls c)
unfolding line_at
line_more ls m zero = inr refl
line_more ls m (suc i) = go ls i
  where
    go : (ls : List Line) (i : ℕ) → ((suc i ≡ length ls + 1) × (slice_get (ls ++ m ∷ []) i ≡ Some m) × (slice_get ls i ≡ None)) ⊎
        (slice_get (ls ++ m ∷ []) i ≡ slice_get ls i)
    go [] zero = inl (refl, refl, refl)
    go [] (suc i) = inr refl
    go (l ∷ ls) zero = inr refl
    go (l ∷ ls) (suc i) = elim (go ls i) [ inl h ↦ inl (omega (arith, h.0), h.1, h.2) | inr h ↦ inr h ]

-- ---- lines and admitted connections

pub line_admitted : (ls : List Line) (past : Past) (c : ℕ) (l : Line) → past.admitted ≡ length ls → line_at ls c ≡ Some l
    → IsAdmitted past c
unfolding line_at
line_admitted ls past zero l e h = absurd (none-some l h)
line_admitted ls past (suc i) l e h = record { from = omega arith; below = omega (arith, e, slice_get_within ls i l h) }

pub not_admitted : (ls : List Line) (past : Past) (c : ℕ) → past.admitted ≡ length ls → line_at ls c ≡ None → IsAdmitted past c → ⊥
unfolding line_at
not_admitted ls past zero e h a = omega (arith, a.from)
not_admitted ls past (suc i) e h a = go ls i h (omega (arith, a.below, e))
  where
    go : (ls : List Line) (i : ℕ) → slice_get ls i ≡ None → i < length ls → ⊥
    go [] i h k = omega (arith, k)
    go (l ∷ ls) zero h k = none-some l (sym h)
    go (l ∷ ls) (suc i) h k = go ls i h (omega (arith, k))

-- ---- what is kept of each connection

pub with_at_here : {A : Type 0} (c : ℕ) (x : A) (f : ℕ → A) (d : ℕ) → d ≡ c → with_at c x f d ≡ x
unfolding with_at
with_at_here c x f d e = ap (λ (b : Bool). cond b x (f d)) (eq-eqb d c e)

pub with_at_other : {A : Type 0} (c : ℕ) (x : A) (f : ℕ → A) (d : ℕ) → (d ≡ c → ⊥) → with_at c x f d ≡ f d
unfolding with_at
with_at_other c x f d h = ap (λ (b : Bool). cond b x (f d)) (ne_eqb d c h)

-- what is put is what was there
pub with_at_same : {A : Type 0} (c : ℕ) (x : A) (f : ℕ → A) → f c ≡ x → (d : ℕ) → f d ≡ with_at c x f d
with_at_same c x f e d = elim (cases_eq d c) [
  | inl h ↦ ap f h ∙ e ∙ sym (with_at_here c x f d h)
  | inr h ↦ sym (with_at_other c x f d h)
]

-- ---- what a line tells

pub waits_there : (ls : List Line) (c : ℕ) (l : Line) → line_at ls c ≡ Some l → waiting_at ls c ≡ l.waiting
unfolding waiting_at
waits_there ls c l h = ap (λ (o : Option Line). option_map_or (λ x. x.waiting) o []) h

pub waits_nowhere : (ls : List Line) (c : ℕ) → line_at ls c ≡ None → waiting_at ls c ≡ []
unfolding waiting_at
waits_nowhere ls c h = ap (λ (o : Option Line). option_map_or (λ x. x.waiting) o []) h

pub rests_nowhere : (ls : List Line) (c : ℕ) → line_at ls c ≡ None → rest_at ls c ≡ []
unfolding rest_at
rests_nowhere ls c h = ap (λ (o : Option Line). option_map_or (λ x. held_by x.standing) o []) h

pub ends_nowhere : (ls : List Line) (c : ℕ) → line_at ls c ≡ None → ending_at ls c ≡ None
unfolding ending_at
ends_nowhere ls c h = ap (λ (o : Option Line). option_and_then (λ x. ending_of x.standing) o) h

pub rests_there : (ls : List Line) (c : ℕ) (l : Line) → line_at ls c ≡ Some l → rest_at ls c ≡ held_by l.standing
unfolding rest_at
rests_there ls c l h = ap (λ (o : Option Line). option_map_or (λ x. held_by x.standing) o []) h

pub ends_there : (ls : List Line) (c : ℕ) (l : Line) → line_at ls c ≡ Some l → ending_at ls c ≡ ending_of l.standing
unfolding ending_at
ends_there ls c l h = ap (λ (o : Option Line). option_and_then (λ x. ending_of x.standing) o) h

-- equal lines tell the same
pub record TellsSame (old new : List Line) (c : ℕ) : Type 0 where
  pub waits : waiting_at new c ≡ waiting_at old c
  pub rests : rest_at new c ≡ rest_at old c
  pub ends : ending_at new c ≡ ending_at old c

pub same_line : (old new : List Line) (c : ℕ) → line_at new c ≡ line_at old c → TellsSame old new c
unfolding waiting_at rest_at ending_at
same_line old new c h = record {
  waits = ap (λ (o : Option Line). option_map_or (λ x. x.waiting) o []) h;
  rests = ap (λ (o : Option Line). option_map_or (λ x. held_by x.standing) o []) h;
  ends = ap (λ (o : Option Line). option_and_then (λ x. ending_of x.standing) o) h;
}
