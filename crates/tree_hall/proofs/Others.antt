-- What a step of one seat leaves true of the others.
use Rattle.std.proofs.Common.{◌≡◌, ◌≢◌, ℕ, zero, suc, ◌<◌, ◌≤◌, cond, eqb, List, [], ◌∷◌, set, refl, sym, ap, ◌∙◌, subst, ⊎_elim, arith, eq-eqb, ne_eqb}
use mathlib.Core.Logic.{dite}
use mathlib.Core.Option.{some, some-injective, some-ne-none}
use native.Mathlib.Decide.{ℕ_discrete}
use lib.ListN.{get_elem?}
use Rattle.atomic_table.proofs.Lists.{at_set, set_else}
use Rattle.tree_hall.specs.declared.view.Item.{Item}
use Rattle.tree_hall.specs.declared.view.View.{View}
use Rattle.tree_hall.specs.declared.view.Role.{Role}
use Rattle.tree_hall.specs.declared.view.Role.TheVariants.{Gone, Idle, Waits, Has, Told, Splits, Meets, Counts, Alone}
use Rattle.tree_hall.specs.Histories.{calls_by, StartsWith}
use Rattle.tree_hall.specs.Turns.{weight, Turn, Post, Fits}

-- f, but x at k
abbrev pub put : (ℕ → ℕ) → ℕ → ℕ → ℕ → ℕ
put f k x i = cond (eqb i k) x (f i)

pub put_here : (f : ℕ → ℕ) (k x : ℕ) → put f k x k ≡ x
put_here f k x = ap (λ b. cond b x (f k)) (eq-eqb k k refl)

pub put_else : (f : ℕ → ℕ) (k x i : ℕ) → i ≢ k → put f k x i ≡ f i
put_else f k x i n = ap (λ b. cond b x (f i)) (ne_eqb i k n)

-- f, but y where it was x
abbrev pub moved : (ℕ → ℕ) → ℕ → ℕ → ℕ → ℕ
moved f x y i = cond (eqb (f i) x) y (f i)

pub moved_there : (f : ℕ → ℕ) (x y i : ℕ) → f i ≡ x → moved f x y i ≡ y
moved_there f x y i e = ap (λ b. cond b y (f i)) (eq-eqb (f i) x e)

pub moved_else : (f : ℕ → ℕ) (x y i : ℕ) → f i ≢ x → moved f x y i ≡ f i
moved_else f x y i n = ap (λ b. cond b y (f i)) (ne_eqb (f i) x n)

pub set_at : {A : Type 0} (l : List A) (i : ℕ) (a b : A) → get_elem? l i ≡ some a → get_elem? (set l i b) i ≡ some b
set_at [] i a b e = absurd (some-ne-none a (sym e))
set_at (x ∷ xs) zero a b e = refl
set_at (x ∷ xs) (suc i) a b e = set_at xs i a b e

pub each_set : (P : ℕ → View → Type 0) (vs : List View) (me : ℕ) (w : View) → P me w → ((j : ℕ) (v : View) → j ≢ me → get_elem? vs j ≡ some v → P j v)
    → (j : ℕ) (v : View) → get_elem? (set vs me w) j ≡ some v → P j v
each_set P vs me w mine others j v e = ⊎_elim (λ (t : (j ≡ me) × (w ≡ v)). subst (λ (x : ℕ × View). P x.0 x.1) (λ i. (sym t.0 i, t.1 i)) mine)
    (λ (t : (j ≢ me) × (get_elem? vs j ≡ some v)). others j v t.0 t.1) (at_set vs me j w v e)

-- some view at h has F, also after the seat `me`, whose new view has F, stepped
pub some_set : (F : Role → Type 0) (vs : List View) (me : ℕ) (u w : View) → get_elem? vs me ≡ some u → F w.role → (h : ℕ)
    → ((v : View) × (get_elem? vs h ≡ some v) × F v.role) → (v : View) × (get_elem? (set vs me w) h ≡ some v) × F v.role
some_set F vs me u w at f h t = dite (ℕ_discrete h me)
    (λ e. (w, subst (λ (k : ℕ). get_elem? (set vs me w) k ≡ some w) (sym e) (set_at vs me u w at), f))
    (λ n. (t.0, set_else vs me h w n ∙ t.1, t.2))

-- the same where the seat's view has F neither before nor after
pub other_set : (F : Role → Type 0) (vs : List View) (me : ℕ) (u w : View) → get_elem? vs me ≡ some u → ¬ (F u.role) → (h : ℕ)
    → ((v : View) × (get_elem? vs h ≡ some v) × F v.role) → (v : View) × (get_elem? (set vs me w) h ≡ some v) × F v.role
other_set F vs me u w at none h t =
    let n : h ≢ me = λ e. none (subst (λ (v : View). F v.role) (some-injective t.0 u (sym t.1 ∙ ap (get_elem? vs) e ∙ at)) t.2) in
    (t.0, set_else vs me h w n ∙ t.1, t.2)

pub turn_other : (next next' serving serving' stage stage' : ℕ) (owner owner' : ℕ → ℕ) (log log' : List Item) (j : ℕ)
    → ((t : ℕ) → owner t ≡ j → serving ≤ t → t < next → (t ≡ serving → stage ≡ 0) → (owner' t ≡ j) × (serving' ≤ t) × (t < next') × (t ≡ serving' → stage' ≡ 0))
    → ((t : ℕ) → owner t ≡ j → t ≡ serving → t < next → stage ≢ 0 → (owner' t ≡ j) × (t ≡ serving') × (t < next') × (stage' ≡ stage) × (log' ≡ log))
    → (seen : List Item) (role : Role) → Turn next serving stage owner log j seen role → Turn next' serving' stage' owner' log' j seen role
turn_other next next' serving serving' stage stage' owner owner' log log' j waits busy seen (Waits t) h = waits t h.0 h.1 h.2 h.3
turn_other next next' serving serving' stage stage' owner owner' log log' j waits busy seen (Has t) h =
    let is : stage ≡ 1 = h.3 in let b = busy t h.0 h.1 h.2 (λ z. absurd (omega arith)) in (b.0, b.1, b.2, b.3 ∙ h.3, h.4 ∙ sym b.4)
turn_other next next' serving serving' stage stage' owner owner' log log' j waits busy seen (Told t) h =
    let is : stage ≡ 2 = h.3 in let b = busy t h.0 h.1 h.2 (λ z. absurd (omega arith)) in (b.0, b.1, b.2, b.3 ∙ h.3, h.4 ∙ sym b.4)
turn_other next next' serving serving' stage stage' owner owner' log log' j waits busy seen Gone h = h
turn_other next next' serving serving' stage stage' owner owner' log log' j waits busy seen Idle h = h
turn_other next next' serving serving' stage stage' owner owner' log log' j waits busy seen (Splits k) h = h
turn_other next next' serving serving' stage stage' owner owner' log log' j waits busy seen (Meets also) h = h
turn_other next next' serving serving' stage stage' owner owner' log log' j waits busy seen (Counts n) h = h
turn_other next next' serving serving' stage stage' owner owner' log log' j waits busy seen Alone h = h

-- id is a seat that stands for a pass
pub post_other : (made made' met met' : ℕ) (holder holder' : ℕ → ℕ) (log log' : List Item) (vs vs' : List View) (j number id : ℕ) (v : View)
    → get_elem? vs id ≡ some v → 0 < weight v.role → j ≢ id
    → ((k : ℕ) → holder k ≡ j → k < made → calls_by k log ≡ [] → (holder' k ≡ j) × (k < made') × (calls_by k log' ≡ []))
    → ((also : List Item) → StartsWith log also → StartsWith log' also) → met ≤ met'
    → (role : Role) → Post made met holder log vs j number role → Post made' met' holder' log' vs' j number role
post_other made made' met met' holder holder' log log' vs vs' j number id v at live apart splits meets more (Splits k) h = let s = splits k h.0 h.1 h.3 in (s.0, s.1, h.2, s.2)
post_other made made' met met' holder holder' log log' vs vs' j number id v at live apart splits meets more (Meets also) h = meets also h
post_other made made' met met' holder holder' log log' vs vs' j number id v at live apart splits meets more (Counts n) h = omega arith
post_other made made' met met' holder holder' log log' vs vs' j number id v at live apart splits meets more Alone h =
    let none : weight v.role ≡ 0 = h id v at (λ e. apart (sym e)) in absurd (omega arith)
post_other made made' met met' holder holder' log log' vs vs' j number id v at live apart splits meets more Gone h = h
post_other made made' met met' holder holder' log log' vs vs' j number id v at live apart splits meets more Idle h = h
post_other made made' met met' holder holder' log log' vs vs' j number id v at live apart splits meets more (Waits t) h = h
post_other made made' met met' holder holder' log log' vs vs' j number id v at live apart splits meets more (Has t) h = h
post_other made made' met met' holder holder' log log' vs vs' j number id v at live apart splits meets more (Told t) h = h

pub fits_other : (made made' : ℕ) (holder holder' : ℕ → ℕ) (log log' : List Item) (j : ℕ)
    → ((by : ℕ) → (holder by ≡ j → (holder' by ≡ j) × (calls_by by log' ≡ calls_by by log)) × (holder' by ≡ j → holder by ≡ j)) → made ≤ made'
    → ((also : List Item) → StartsWith log also → StartsWith log' also)
    → (v : View) → Fits made holder log j v → Fits made' holder' log' j v
fits_other made made' holder holder' log log' j same more longer v h = record {
  seen = longer v.seen h.seen;
  own = λ by. (
    (λ e. let o = (same by).1 e in (h.own by).0 o ∙ sym (((same by).0 o).1)),
    (λ n. (h.own by).1 (λ o. n (((same by).0 o).0))),
  );
  number = (((same v.number).0 h.number.0).0, (let less = h.number.1 in omega arith));
}
