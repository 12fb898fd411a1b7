-- What is read off the nodes does not depend on their order.
use Rattle.std.proofs.Common.{◌≡◌, suc, Bool, true, false, cond, List, [], ◌∷◌, ◌++◌, Option, Some, length, map, filter, refl, sym, ap, subst, ◌∙◌, inl, inr}
use Rattle.std.proofs.lemmas.Bool.{cases_Bool}
use Rattle.tree_state.specs.Nodes.{Path, Node, Place, same_path, find, is_there, changed_at, change, is_elsewhere, remove}
use Rattle.tree_state.specs.Places.{IsApart}
pub use Rattle.tree_state.specs.Shuffles.{Shuffles, nothing, kept, swapped, joined}
pub use Rattle.tree_state.proofs.ByteOrder.{same_order}
use Rattle.tree_state.proofs.SamePaths.{same_path-true, same_path-sym}

-- ---- lists in another order

pub Shuffles-sym : {A : Type 0} (xs ys : List A) → Shuffles xs ys → Shuffles ys xs
Shuffles-sym xs ys nothing = nothing
Shuffles-sym xs ys (kept x us vs h) = kept x vs us (Shuffles-sym us vs h)
Shuffles-sym xs ys (swapped x y us) = swapped y x us
Shuffles-sym xs ys (joined us vs ws h k) = joined ws vs us (Shuffles-sym vs ws k) (Shuffles-sym us vs h)

pub map-Shuffles : {A B : Type 0} (f : A → B) (xs ys : List A) → Shuffles xs ys → Shuffles (map f xs) (map f ys)
map-Shuffles f xs ys nothing = nothing
map-Shuffles f xs ys (kept x us vs h) = kept (f x) _ _ (map-Shuffles f us vs h)
map-Shuffles f xs ys (swapped x y us) = swapped (f x) (f y) (map f us)
map-Shuffles f xs ys (joined us vs ws h k) = joined _ _ _ (map-Shuffles f us vs h) (map-Shuffles f vs ws k)

pub length-Shuffles : {A : Type 0} (xs ys : List A) → Shuffles xs ys → length xs ≡ length ys
length-Shuffles xs ys nothing = refl
length-Shuffles xs ys (kept x us vs h) = ap suc (length-Shuffles us vs h)
length-Shuffles xs ys (swapped x y us) = refl
length-Shuffles xs ys (joined us vs ws h k) = length-Shuffles us vs h ∙ length-Shuffles vs ws k

one_more : {A : Type 0} (b : Bool) (x : A) (us vs : List A) → Shuffles us vs → Shuffles (cond b (x ∷ us) us) (cond b (x ∷ vs) vs)
one_more true x us vs h = kept x us vs h
one_more false x us vs h = h

both_swapped : {A : Type 0} (b c : Bool) (x y : A) (us : List A) → Shuffles (cond b (x ∷ cond c (y ∷ us) us) (cond c (y ∷ us) us)) (cond c (y ∷ cond b (x ∷ us) us) (cond b (x ∷ us) us))
both_swapped true true x y us = swapped x y us
both_swapped true false x y us = same_order _
both_swapped false true x y us = same_order _
both_swapped false false x y us = same_order _

pub filter-Shuffles : {A : Type 0} (test : A → Bool) (xs ys : List A) → Shuffles xs ys → Shuffles (filter test xs) (filter test ys)
filter-Shuffles test xs ys nothing = nothing
filter-Shuffles test xs ys (kept x us vs h) = one_more (test x) x _ _ (filter-Shuffles test us vs h)
filter-Shuffles test xs ys (swapped x y us) = both_swapped (test x) (test y) x y (filter test us)
filter-Shuffles test xs ys (joined us vs ws h k) = joined _ _ _ (filter-Shuffles test us vs h) (filter-Shuffles test vs ws k)

pub front-Shuffles : {A : Type 0} (x : A) (xs : List A) → Shuffles (xs ++ x ∷ []) (x ∷ xs)
front-Shuffles x [] = same_order (x ∷ [])
front-Shuffles x (y ∷ xs) = joined _ (y ∷ x ∷ xs) _ (kept y _ _ (front-Shuffles x xs)) (swapped y x xs)

pub back-Shuffles : {A : Type 0} (x : A) (xs : List A) → Shuffles (x ∷ xs) (xs ++ x ∷ [])
back-Shuffles x [] = same_order (x ∷ [])
back-Shuffles x (y ∷ xs) = joined _ (y ∷ x ∷ xs) _ (swapped x y xs) (kept y _ _ (back-Shuffles x xs))

-- ---- whether a node is there

pub there-Shuffles : (p : Path) (xs ys : List Place) → Shuffles xs ys → is_there xs p ≡ is_there ys p
unfolding is_there
there-Shuffles p xs ys nothing = refl
there-Shuffles p xs ys (kept x us vs h) = ap (λ (b : Bool). cond (same_path x.path p) true b) (there-Shuffles p us vs h)
there-Shuffles p xs ys (swapped x y us) = crossed (same_path x.path p) (same_path y.path p) (is_there us p)
  where
    crossed : (a b c : Bool) → cond a true (cond b true c) ≡ cond b true (cond a true c)
    crossed true true c = refl
    crossed true false c = refl
    crossed false true c = refl
    crossed false false c = refl
there-Shuffles p xs ys (joined us vs ws h k) = there-Shuffles p us vs h ∙ there-Shuffles p vs ws k

-- the first node is at the path
pub there_first : (es : List Place) (e : Place) (p : Path) → same_path e.path p ≡ true → is_there (e ∷ es) p ≡ true
unfolding is_there
there_first es e p h = ap (λ (b : Bool). cond b true (is_there es p)) h

-- the first node is elsewhere
pub there_behind : (es : List Place) (e : Place) (p : Path) → same_path e.path p ≡ false → is_there (e ∷ es) p ≡ is_there es p
unfolding is_there
there_behind es e p h = ap (λ (b : Bool). cond b true (is_there es p)) h

pub absent_behind : (es : List Place) (e : Place) (p : Path) → is_there (e ∷ es) p ≡ false → is_there es p ≡ false
unfolding is_there
absent_behind es e p h = go (same_path e.path p) h
  where
    go : (b : Bool) → cond b true (is_there es p) ≡ false → is_there es p ≡ false
    go true k = absurd cc
    go false k = k

pub absent_first : (es : List Place) (e : Place) (p : Path) → is_there (e ∷ es) p ≡ false → same_path e.path p ≡ false
absent_first es e p h = elim (cases_Bool (same_path e.path p)) [ inl k ↦ let f = there_first es e p k in absurd cc | inr k ↦ k ]

-- ---- nodes apart, and what is found

pub apart-Shuffles : (xs ys : List Place) → Shuffles xs ys → IsApart xs → IsApart ys
unfolding IsApart
apart-Shuffles xs ys nothing h = h
apart-Shuffles xs ys (kept x us vs k) h = (sym (there-Shuffles x.path us vs k) ∙ h.0, apart-Shuffles us vs k h.1)
apart-Shuffles xs ys (swapped x y us) h =
    let n = same_path-sym y.path x.path (absent_first us y x.path h.0) in
    (there_behind us x y.path n ∙ h.1.0, (absent_behind us y x.path h.0, h.1.1))
apart-Shuffles xs ys (joined us vs ws k l) h = apart-Shuffles vs ws l (apart-Shuffles us vs k h)

pub find-Shuffles : (p : Path) (xs ys : List Place) → Shuffles xs ys → IsApart xs → find xs p ≡ find ys p
unfolding find IsApart
find-Shuffles p xs ys nothing h = refl
find-Shuffles p xs ys (kept x us vs k) h = ap (λ (o : Option Node). cond (same_path x.path p) (Some x.node) o) (find-Shuffles p us vs k h.1)
find-Shuffles p xs ys (swapped x y us) h = crossed (same_path x.path p) (same_path y.path p) (λ a b.
    let e = same_path-true x.path p a in
    let g = there_first us y x.path (subst (λ (q : Path). same_path y.path q ≡ true) (sym e) b) in let i = h.0 in absurd cc)
  where
    crossed : (a b : Bool) → (a ≡ true → b ≡ true → ⊥) → cond a (Some x.node) (cond b (Some y.node) (find us p)) ≡ cond b (Some y.node) (cond a (Some x.node) (find us p))
    crossed true true n = absurd (n refl refl)
    crossed true false n = refl
    crossed false true n = refl
    crossed false false n = refl
find-Shuffles p xs ys (joined us vs ws k l) h = find-Shuffles p us vs k h ∙ find-Shuffles p vs ws l (apart-Shuffles us vs k h)

-- ---- changes, and children

pub change-Shuffles : (p : Path) (f : Node → Node) (xs ys : List Place) → Shuffles xs ys → Shuffles (change p f xs) (change p f ys)
unfolding change
change-Shuffles p f xs ys h = map-Shuffles (changed_at p f) xs ys h

pub remove-Shuffles : (p : Path) (xs ys : List Place) → Shuffles xs ys → Shuffles (remove p xs) (remove p ys)
unfolding remove
remove-Shuffles p xs ys h = filter-Shuffles (is_elsewhere p) xs ys h
