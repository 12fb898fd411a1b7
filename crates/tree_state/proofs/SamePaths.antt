-- What the test of two paths says.
use Rattle.std.proofs.Common.{◌≡◌, ℕ, ◌&&◌, Bool, true, false, List, [], ◌∷◌, length, inl, inr, refl, sym, ap, subst, ◌∙◌, arith, bytes_eq}
use Rattle.std.proofs.lemmas.Bool.{cases_Bool}
use Rattle.std.proofs.lemmas.Slice.Eq.{bytes_eq-Decides}
use Rattle.tree_state.specs.Nodes.{Path, same_path}

both_true : (a b : Bool) → (a && b) ≡ true → (a ≡ true) × (b ≡ true)
both_true true b h = (refl, h)
both_true false b h = absurd cc

pub same_path-true : (p q : Path) → same_path p q ≡ true → p ≡ q
unfolding same_path
same_path-true [] [] h = refl
same_path-true [] (m ∷ q) h = absurd cc
same_path-true (n ∷ p) [] h = absurd cc
same_path-true (n ∷ p) (m ∷ q) h =
    let both = both_true (same_path p q) (bytes_eq n m) h in
    let uppers = same_path-true p q both.0 in
    let names = (bytes_eq-Decides n m).0 both.1 in
    cc

pub same_path-refl : (p : Path) → same_path p p ≡ true
unfolding same_path
same_path-refl [] = refl
same_path-refl (n ∷ p) = ap (λ (b : Bool). b && bytes_eq n n) (same_path-refl p) ∙ (bytes_eq-Decides n n).1 refl

pub same_path-from : (p q : Path) → p ≡ q → same_path p q ≡ true
same_path-from p q e = subst (λ (r : Path). same_path p r ≡ true) e (same_path-refl p)

pub same_path-sym : (p q : Path) → same_path p q ≡ false → same_path q p ≡ false
same_path-sym p q h = elim (cases_Bool (same_path q p)) [ inl k ↦ let e = same_path-from p q (sym (same_path-true q p k)) in absurd cc | inr k ↦ k ]

-- a path is not under itself
pub same_path-above : (n : List ℕ) (p : Path) → same_path (n ∷ p) p ≡ false
same_path-above n p = elim (cases_Bool (same_path (n ∷ p) p)) [ inl k ↦ let e = ap length (same_path-true (n ∷ p) p k) in absurd (omega arith) | inr k ↦ k ]
