-- Two lists related place by place, and tests that agree.
use Rattle.std.proofs.Common.{◌≡◌, suc, Bool, true, false, cond, List, [], ◌∷◌, ◌++◌, Option, Some, None, length, refl, sym, ap}
use Rattle.std.specs.Prelude.{◌&&◌, map, filter}
use Rattle.std.specs.List.{filter_map, list_any, cons_option}
unfoldable pub use Rattle.store_side.specs.Zips.{Zips, Both}

pub zips_none : {A B : Type 0} (R : A → B → Type 0) → Zips R [] []
unfolding Zips
zips_none R = tt

pub zips_one : {A B : Type 0} (R : A → B → Type 0) (x : A) (y : B) → R x y → Zips R (x ∷ []) (y ∷ [])
unfolding Zips
zips_one R x y h = (h, tt)

pub zips_cons : {A B : Type 0} (R : A → B → Type 0) (x : A) (y : B) (xs : List A) (ys : List B) → R x y → Zips R xs ys → Zips R (x ∷ xs) (y ∷ ys)
unfolding Zips
zips_cons R x y xs ys h k = (h, k)

pub zips_append : {A B : Type 0} (R : A → B → Type 0) (xs us : List A) (ys vs : List B) → Zips R xs ys → Zips R us vs → Zips R (xs ++ us) (ys ++ vs)
unfolding Zips
zips_append R [] us [] vs h k = k
zips_append R [] us (y ∷ ys) vs h k = absurd h
zips_append R (x ∷ xs) us [] vs h k = absurd h
zips_append R (x ∷ xs) us (y ∷ ys) vs h k = (h.0, zips_append R xs us ys vs h.1 k)

pub zips_map : {A B C D : Type 0} (R : A → B → Type 0) (S : C → D → Type 0) (f : A → C) (g : B → D)
    → ((x : A) (y : B) → R x y → S (f x) (g y)) → (xs : List A) (ys : List B) → Zips R xs ys → Zips S (map f xs) (map g ys)
unfolding Zips
zips_map R S f g k [] [] h = tt
zips_map R S f g k [] (y ∷ ys) h = absurd h
zips_map R S f g k (x ∷ xs) [] h = absurd h
zips_map R S f g k (x ∷ xs) (y ∷ ys) h = (k x y h.0, zips_map R S f g k xs ys h.1)

keeps : {A B : Type 0} (R : A → B → Type 0) (b c : Bool) (x : A) (y : B) (xs : List A) (ys : List B) → b ≡ c → R x y → Zips R xs ys
    → Zips R (cond b (x ∷ xs) xs) (cond c (y ∷ ys) ys)
unfolding Zips
keeps R true true x y xs ys e h k = (h, k)
keeps R true false x y xs ys e h k = absurd cc
keeps R false true x y xs ys e h k = absurd cc
keeps R false false x y xs ys e h k = k

pub zips_filter : {A B : Type 0} (R : A → B → Type 0) (p : A → Bool) (q : B → Bool)
    → ((x : A) (y : B) → R x y → p x ≡ q y) → (xs : List A) (ys : List B) → Zips R xs ys → Zips R (filter p xs) (filter q ys)
unfolding Zips
zips_filter R p q k [] [] h = tt
zips_filter R p q k [] (y ∷ ys) h = absurd h
zips_filter R p q k (x ∷ xs) [] h = absurd h
zips_filter R p q k (x ∷ xs) (y ∷ ys) h = keeps R (p x) (q y) x y (filter p xs) (filter q ys) (k x y h.0) h.0 (zips_filter R p q k xs ys h.1)

kept : {C D : Type 0} (S : C → D → Type 0) (a : Option C) (b : Option D) (xs : List C) (ys : List D) → Both S a b → Zips S xs ys
    → Zips S (cons_option a xs) (cons_option b ys)
unfolding Zips Both
kept S None None xs ys m h = h
kept S None (Some y) xs ys m h = absurd m
kept S (Some x) None xs ys m h = absurd m
kept S (Some x) (Some y) xs ys m h = (m, h)

pub zips_filter_map : {A B C D : Type 0} (R : A → B → Type 0) (S : C → D → Type 0) (f : A → Option C) (g : B → Option D)
    → ((x : A) (y : B) → R x y → Both S (f x) (g y)) → (xs : List A) (ys : List B) → Zips R xs ys → Zips S (filter_map f xs) (filter_map g ys)
unfolding Zips
zips_filter_map R S f g k [] [] h = tt
zips_filter_map R S f g k [] (y ∷ ys) h = absurd h
zips_filter_map R S f g k (x ∷ xs) [] h = absurd h
zips_filter_map R S f g k (x ∷ xs) (y ∷ ys) h = kept S (f x) (g y) (filter_map f xs) (filter_map g ys) (k x y h.0) (zips_filter_map R S f g k xs ys h.1)

pub any_agree : {A B : Type 0} (R : A → B → Type 0) (p : A → Bool) (q : B → Bool)
    → ((x : A) (y : B) → R x y → p x ≡ q y) → (xs : List A) (ys : List B) → Zips R xs ys → list_any p xs ≡ list_any q ys
unfolding Zips
any_agree R p q k [] [] h = refl
any_agree R p q k [] (y ∷ ys) h = absurd h
any_agree R p q k (x ∷ xs) [] h = absurd h
any_agree R p q k (x ∷ xs) (y ∷ ys) h = let e = k x y h.0 in let m = any_agree R p q k xs ys h.1 in cc

pub length_zips : {A B : Type 0} (R : A → B → Type 0) (xs : List A) (ys : List B) → Zips R xs ys → length xs ≡ length ys
unfolding Zips
length_zips R [] [] h = refl
length_zips R [] (y ∷ ys) h = absurd h
length_zips R (x ∷ xs) [] h = absurd h
length_zips R (x ∷ xs) (y ∷ ys) h = ap suc (length_zips R xs ys h.1)

-- lists related by equality
pub same_zips : {A : Type 0} (xs ys : List A) → Zips (λ x y. x ≡ y) xs ys → xs ≡ ys
unfolding Zips
same_zips [] [] h = refl
same_zips [] (y ∷ ys) h = absurd h
same_zips (x ∷ xs) [] h = absurd h
same_zips (x ∷ xs) (y ∷ ys) h = let e = same_zips xs ys h.1 in let f = h.0 in cc

-- Tests

pub tests_agree : (a b : Bool) → (a ≡ true → b ≡ true) → (b ≡ true → a ≡ true) → a ≡ b
tests_agree true true f g = refl
tests_agree true false f g = sym (f refl)
tests_agree false true f g = g refl
tests_agree false false f g = refl

pub ands_agree : (a b c d : Bool) → a ≡ c → (a ≡ true → b ≡ d) → (a && b) ≡ (c && d)
ands_agree true b true d e f = f refl
ands_agree true b false d e f = absurd cc
ands_agree false b true d e f = absurd cc
ands_agree false b false d e f = refl

pub both_true : (a b : Bool) → (a && b) ≡ true → (a ≡ true) × (b ≡ true)
both_true true b h = (refl, h)
both_true false b h = absurd cc

pub both_cond : {A B : Type 0} (R : A → B → Type 0) (b c : Bool) (x : A) (y : B) (o : Option A) (u : Option B) → b ≡ c → (b ≡ true → R x y) → Both R o u
    → Both R (cond b (Some x) o) (cond c (Some y) u)
unfolding Both
both_cond R true true x y o u e h k = h refl
both_cond R true false x y o u e h k = absurd cc
both_cond R false true x y o u e h k = absurd cc
both_cond R false false x y o u e h k = k

pub both_none : {A B : Type 0} (R : A → B → Type 0) → Both R None None
unfolding Both
both_none R = tt

pub both_some : {A B : Type 0} (R : A → B → Type 0) (x : A) (y : B) → R x y → Both R (Some x) (Some y)
unfolding Both
both_some R x y h = h

-- a choice by tests that agree
pub choose : {A B : Type 0} (R : A → B → Type 0) (b c : Bool) (x x' : A) (y y' : B) → b ≡ c → (b ≡ true → R x y) → (b ≡ false → R x' y') → R (cond b x x') (cond c y y')
choose R true true x x' y y' e h k = h refl
choose R true false x x' y y' e h k = absurd cc
choose R false true x x' y y' e h k = absurd cc
choose R false false x x' y y' e h k = k refl
