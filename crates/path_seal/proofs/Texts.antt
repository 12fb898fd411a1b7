-- Texts in which each component stands after a slash.
use Rattle.std.proofs.Common.{◌≡◌, ◌≢◌, ℕ, ◌^◌, ◌≤◌, List, [], ◌∷◌, ◌++◌, length, refl, sym, ap, ◌∙◌, arith}
use Rattle.zk_path.specs.Paths.{joined, text_of}
use Rattle.zk_path.proofs.Components.{joined_begins}

-- only the root has no components
pub filled : (n : List ℕ) (p : List (List ℕ)) → joined (n ∷ p) ≢ []
filled n p e = let g = joined_begins n p in let clash : 47 ∷ g.0 ≡ [] = sym g.1 ∙ e in cc

pub root_text : (a : List ℕ) (p : List (List ℕ)) → a ≡ [] → a ≡ joined p → 47 ∷ [] ≡ text_of p
unfolding text_of
root_text a [] none e = refl
root_text a (n ∷ p) none e = absurd (filled n p (sym e ∙ none))

pub other_text : (a : List ℕ) (p : List (List ℕ)) → a ≢ [] → a ≡ joined p → a ≡ text_of p
unfolding text_of joined
other_text a [] some e = absurd (some e)
other_text a (n ∷ p) some e = e

pub joined_text : (p : List (List ℕ)) → p ≢ [] → joined p ≡ text_of p
unfolding text_of
joined_text [] some = absurd (some refl)
joined_text (n ∷ p) some = refl

pub begins : (p : List (List ℕ)) → (rest : List ℕ) × (text_of p ≡ 47 ∷ rest)
unfolding text_of
begins [] = ([], refl)
begins (n ∷ p) = joined_begins n p

-- what each text under a path begins with
pub root_ahead : (a : List ℕ) (p : List (List ℕ)) → a ≡ [] → a ≡ joined p → text_of p ≡ joined p ++ 47 ∷ []
unfolding text_of joined
root_ahead a [] none e = refl
root_ahead a (n ∷ p) none e = absurd (filled n p (sym e ∙ none))

pub other_ahead : (a : List ℕ) (p : List (List ℕ)) → a ≢ [] → a ≡ joined p → text_of p ++ 47 ∷ [] ≡ joined p ++ 47 ∷ []
other_ahead a p some e = ap (λ (l : List ℕ). l ++ 47 ∷ []) (sym (other_text a p some e) ∙ e)

pub text_short : (p : List (List ℕ)) (most : ℕ) → length (joined p) ≤ most → 1 ≤ most → length (text_of p) ≤ most
unfolding text_of
text_short [] most h one = one
text_short (n ∷ p) most h one = h

pub root_short : (p : List (List ℕ)) → p ≡ [] → length (text_of p) ≤ 2 ^ 28
unfolding text_of
root_short [] e = omega arith
root_short (n ∷ p) e = absurd cc
