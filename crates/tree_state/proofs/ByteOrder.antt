-- Names in byte order do not depend on the order in which they come.
use Rattle.std.proofs.Common.{◌≡◌, ◌<◌, ◌&&◌, ◌||◌, ◌==◌, ℕ, Bool, true, false, cond, List, [], ◌∷◌, refl, sym, ap, subst, ◌∙◌, arith, inl, inr, lt-ltb, le-ltb, ne_eqb, eq-eqb}
use Rattle.std.proofs.lemmas.Bool.{cases_Bool, cases_order}
use Rattle.tree_state.specs.Nodes.{text_le, placed, in_order}
use Rattle.tree_state.specs.Shuffles.{Shuffles, nothing, kept, swapped, joined}

pub same_order : {A : Type 0} (xs : List A) → Shuffles xs xs
same_order [] = nothing
same_order (x ∷ xs) = kept x xs xs (same_order xs)

-- ---- the order of texts

pub le_lower : (a b : ℕ) (x y : List ℕ) → a < b → text_le (a ∷ x) (b ∷ y) ≡ true
unfolding text_le
le_lower a b x y h = ap (λ (t : Bool). t || ((a == b) && text_le x y)) (lt-ltb a b h)

le_same : (a : ℕ) (x y : List ℕ) → text_le (a ∷ x) (a ∷ y) ≡ text_le x y
unfolding text_le
le_same a x y = ap (λ (t : Bool). t || ((a == a) && text_le x y)) (le-ltb a a (omega arith)) ∙ ap (λ (t : Bool). t && text_le x y) (eq-eqb a a refl)

pub le_higher : (a b : ℕ) (x y : List ℕ) → b < a → text_le (a ∷ x) (b ∷ y) ≡ false
unfolding text_le
le_higher a b x y h = ap (λ (t : Bool). t || ((a == b) && text_le x y)) (le-ltb a b (omega arith)) ∙ ap (λ (t : Bool). t && text_le x y) (ne_eqb a b (omega arith))

pub le_at : (a b : ℕ) (x y : List ℕ) → a ≡ b → text_le (a ∷ x) (b ∷ y) ≡ text_le x y
le_at a b x y e = subst (λ (c : ℕ). text_le (a ∷ x) (c ∷ y) ≡ text_le x y) e (le_same a x y)

pub nil_above : (a : ℕ) (x : List ℕ) → text_le (a ∷ x) [] ≡ true → ⊥
unfolding text_le
nil_above a x h = cc

pub nil_below : (y : List ℕ) → text_le [] y ≡ true
unfolding text_le
nil_below y = refl

pub le_total : (x y : List ℕ) → text_le x y ≡ false → text_le y x ≡ true
le_total [] y h = let k = nil_below y in absurd cc
le_total (a ∷ x) [] h = nil_below (a ∷ x)
le_total (a ∷ x) (b ∷ y) h =
    elim (cases_order a b) [
      | inl e ↦ le_at b a y x (sym e) ∙ le_total x y (sym (le_at a b x y e) ∙ h)
      | inr o ↦ elim o [
        | inl l ↦ let k = le_lower a b x y l in absurd cc
        | inr l ↦ le_lower b a y x l
      ]
    ]

pub le_both : (x y : List ℕ) → text_le x y ≡ true → text_le y x ≡ true → x ≡ y
le_both [] [] h k = refl
le_both [] (b ∷ y) h k = absurd (nil_above b y k)
le_both (a ∷ x) [] h k = absurd (nil_above a x h)
le_both (a ∷ x) (b ∷ y) h k =
    elim (cases_order a b) [
      | inl e ↦ let r = le_both x y (sym (le_at a b x y e) ∙ h) (sym (le_at b a y x (sym e)) ∙ k) in cc
      | inr o ↦ elim o [
        | inl l ↦ let m = le_higher b a y x l in absurd cc
        | inr l ↦ let m = le_higher a b x y l in absurd cc
      ]
    ]

pub le_then : (x y z : List ℕ) → text_le x y ≡ true → text_le y z ≡ true → text_le x z ≡ true
le_then [] y z h k = nil_below z
le_then (a ∷ x) [] z h k = absurd (nil_above a x h)
le_then (a ∷ x) (b ∷ y) [] h k = absurd (nil_above b y k)
le_then (a ∷ x) (b ∷ y) (c ∷ z) h k =
    elim (cases_order a b) [
      | inl e ↦ elim (cases_order b c) [
        | inl f ↦ le_at a c x z (e ∙ f) ∙ le_then x y z (sym (le_at a b x y e) ∙ h) (sym (le_at b c y z f) ∙ k)
        | inr o ↦ elim o [ inl l ↦ le_lower a c x z (omega arith) | inr l ↦ let m = le_higher b c y z l in absurd cc ]
      ]
      | inr o ↦ elim o [
        | inl l ↦ elim (cases_order b c) [
          | inl f ↦ le_lower a c x z (omega arith)
          | inr u ↦ elim u [ inl v ↦ le_lower a c x z (omega arith) | inr v ↦ let m = le_higher b c y z v in absurd cc ]
        ]
        | inr l ↦ let m = le_higher a b x y l in absurd cc
      ]
    ]

-- ---- names at their places

pub placed_before : (n m : List ℕ) (ms : List (List ℕ)) → text_le n m ≡ true → placed n (m ∷ ms) ≡ n ∷ m ∷ ms
unfolding placed
placed_before n m ms h = ap (λ (t : Bool). cond t (n ∷ m ∷ ms) (m ∷ placed n ms)) h

pub placed_after : (n m : List ℕ) (ms : List (List ℕ)) → text_le n m ≡ false → placed n (m ∷ ms) ≡ m ∷ placed n ms
unfolding placed
placed_after n m ms h = ap (λ (t : Bool). cond t (n ∷ m ∷ ms) (m ∷ placed n ms)) h

pub placed_alone : (n : List ℕ) → placed n [] ≡ n ∷ []
unfolding placed
placed_alone n = refl

-- both orders of two names that come before the rest
both_first : (x y : List ℕ) (l u v : List (List ℕ)) → u ≡ y ∷ l → v ≡ x ∷ l → placed x l ≡ x ∷ l → placed y l ≡ y ∷ l → placed x u ≡ placed y v
both_first x y l u v eu ev hx hy =
    elim (cases_Bool (text_le x y)) [
      | inl a ↦ elim (cases_Bool (text_le y x)) [
        | inl b ↦ let e = le_both x y a b in cc
        | inr b ↦ ap (placed x) eu ∙ placed_before x y l a ∙ ap (λ (t : List (List ℕ)). x ∷ t) (sym hy) ∙ sym (placed_after y x l b) ∙ ap (placed y) (sym ev)
      ]
      | inr a ↦ let b = le_total x y a in
          ap (placed x) eu ∙ placed_after x y l a ∙ ap (λ (t : List (List ℕ)). y ∷ t) hx ∙ sym (placed_before y x l b) ∙ ap (placed y) (sym ev)
    ]

-- one before the next name, the other behind it
one_first : (x y m : List ℕ) (ms : List (List ℕ)) → text_le x m ≡ true → text_le y m ≡ false → placed x (placed y (m ∷ ms)) ≡ placed y (placed x (m ∷ ms))
one_first x y m ms a b =
    let far : text_le y x ≡ false = elim (cases_Bool (text_le y x)) [ inl k ↦ let t = le_then y x m k a in absurd cc | inr k ↦ k ] in
    ap (placed x) (placed_after y m ms b) ∙ placed_before x m (placed y ms) a
    ∙ ap (λ (t : List (List ℕ)). x ∷ t) (sym (placed_after y m ms b)) ∙ sym (placed_after y x (m ∷ ms) far) ∙ ap (placed y) (sym (placed_before x m ms a))

pub placed_twice : (x y : List ℕ) (ms : List (List ℕ)) → placed x (placed y ms) ≡ placed y (placed x ms)
placed_twice x y [] = both_first x y [] (placed y []) (placed x []) (placed_alone y) (placed_alone x) (placed_alone x) (placed_alone y)
placed_twice x y (m ∷ ms) =
    elim (cases_Bool (text_le x m)) [
      | inl a ↦ elim (cases_Bool (text_le y m)) [
        | inl b ↦ let bx = placed_before x m ms a in let by = placed_before y m ms b in both_first x y (m ∷ ms) (placed y (m ∷ ms)) (placed x (m ∷ ms)) by bx bx by
        | inr b ↦ one_first x y m ms a b
      ]
      | inr a ↦ elim (cases_Bool (text_le y m)) [
        | inl b ↦ sym (one_first y x m ms b a)
        | inr b ↦ ap (placed x) (placed_after y m ms b) ∙ placed_after x m (placed y ms) a ∙ ap (λ (t : List (List ℕ)). m ∷ t) (placed_twice x y ms)
            ∙ sym (placed_after y m (placed x ms) b) ∙ ap (placed y) (sym (placed_after x m ms a))
      ]
    ]

pub in_order-Shuffles : (xs ys : List (List ℕ)) → Shuffles xs ys → in_order xs ≡ in_order ys
unfolding in_order
in_order-Shuffles xs ys nothing = refl
in_order-Shuffles xs ys (kept x us vs h) = ap (placed x) (in_order-Shuffles us vs h)
in_order-Shuffles xs ys (swapped x y us) = placed_twice x y (in_order us)
in_order-Shuffles xs ys (joined us vs ws h k) = in_order-Shuffles us vs h ∙ in_order-Shuffles vs ws k

placed_anywhere : (x : List ℕ) (xs : List (List ℕ)) → Shuffles (x ∷ xs) (placed x xs)
placed_anywhere x [] = subst (λ (l : List (List ℕ)). Shuffles (x ∷ []) l) (sym (placed_alone x)) (same_order (x ∷ []))
placed_anywhere x (m ∷ ms) =
    elim (cases_Bool (text_le x m)) [
      | inl a ↦ subst (λ (l : List (List ℕ)). Shuffles (x ∷ m ∷ ms) l) (sym (placed_before x m ms a)) (same_order (x ∷ m ∷ ms))
      | inr a ↦ subst (λ (l : List (List ℕ)). Shuffles (x ∷ m ∷ ms) l) (sym (placed_after x m ms a))
          (joined (x ∷ m ∷ ms) (m ∷ x ∷ ms) (m ∷ placed x ms) (swapped x m ms) (kept m (x ∷ ms) (placed x ms) (placed_anywhere x ms)))
    ]

-- names in byte order are the same names
pub Shuffles-in_order : (xs : List (List ℕ)) → Shuffles xs (in_order xs)
unfolding in_order
Shuffles-in_order [] = nothing
Shuffles-in_order (x ∷ xs) = joined (x ∷ xs) (x ∷ in_order xs) (placed x (in_order xs)) (kept x xs (in_order xs) (Shuffles-in_order xs)) (placed_anywhere x (in_order xs))
