-- The remainder is one: p is a multiple of the modulus and its remainder.
use Rattle.std.proofs.Common.{◌≡◌, ℕ, zero, suc, Bool, true, false, cond, List, [], ◌∷◌, ◌++◌, length, take, get_or, refl, sym, ap, ◌∙◌, arith, inl, inr}
use Rattle.std.proofs.lemmas.Bool.{cases_lt, cases_eq}
use Rattle.std.proofs.lemmas.List.{get_or-take, get_or_past, get_or_append_left, get_or_push, length-take, length-append}
use Rattle.aes_block.specs.Polynomial.{plus, add, product, less_modulus, remainder}
use Rattle.aes_block.specs.Laws.{Same, IsRemainder}
use Rattle.aes_block.proofs.Remainder.{plus_comm, plus_assoc, plus_false, get_or-add, get_or-zeros, length-remainder}

twice : (c d : Bool) → plus c (plus d c) ≡ d
twice true true = refl
twice true false = refl
twice false true = refl
twice false false = refl

-- the coefficients of the front of a list of n + 1 of them
front : (u : List Bool) (n i : ℕ) → length u ≡ suc n → (i ≡ n → ⊥) → get_or u i false ≡ get_or (take n u) i false
front u n i h ne = elim (cases_lt i n) [
  | inl lt ↦ sym (get_or-take n u i false lt)
  | inr ge ↦ get_or_past u i false (omega arith) ∙ sym (get_or_past (take n u) i false (omega (arith, length-take n u)))
]

past_front : (u : List Bool) (n : ℕ) → get_or (take n u) n false ≡ false
past_front u n = get_or_past (take n u) n false (omega (arith, length-take n u))

beside : (m : List Bool) (i : ℕ) → (i ≡ length m → ⊥) → get_or (m ++ true ∷ []) i false ≡ get_or m i false
beside m i ne = elim (cases_lt i (length m)) [
  | inl lt ↦ get_or_append_left m (true ∷ []) false i lt
  | inr ge ↦ get_or_past (m ++ true ∷ []) i false (omega (arith, length-append m (true ∷ []))) ∙ sym (get_or_past m i false ge)
]

fold_back : (m u : List Bool) (b : Bool) (i : ℕ) → length u ≡ suc (length m) → get_or u (length m) false ≡ b
    → get_or u i false ≡ plus (get_or (cond b (m ++ true ∷ []) []) i false) (get_or (cond b (add (take (length m) u) m) (take (length m) u)) i false)
fold_back m u false i h e = elim (cases_eq i (length m)) [
  | inl same ↦ rw same (e ∙ sym (past_front u (length m)))
  | inr other ↦ front u (length m) i h other
]
fold_back m u true i h e = elim (cases_eq i (length m)) [
  | inl same ↦
      let one : get_or (m ++ true ∷ []) (length m) false ≡ true = get_or_push m true false (length m) refl in
      let none : get_or m (length m) false ≡ false = get_or_past m (length m) false (omega arith) in
      let low : get_or (add (take (length m) u) m) (length m) false ≡ false =
      get_or-add (take (length m) u) m (length m) ∙ (λ j. plus (past_front u (length m) j) (none j)) in
      rw same (e ∙ sym (λ j. plus (one j) (low j)))
  | inr other ↦
      front u (length m) i h other
      ∙ sym (twice (get_or m i false) (get_or (take (length m) u) i false))
      ∙ sym (λ j. plus (beside m i other j) (get_or-add (take (length m) u) m i j))
]

turned : (x k l : Bool) → plus k (plus x l) ≡ plus (plus x k) l
turned x k l = sym (plus_assoc k x l) ∙ ap (λ (y : Bool). plus y l) (plus_comm k x)

step : (m p k : List Bool) (c : Bool) → Same p (add (product k (m ++ true ∷ [])) (remainder m p))
    → Same (c ∷ p) (add (product (get_or (c ∷ remainder m p) (length m) false ∷ k) (m ++ true ∷ [])) (less_modulus m (c ∷ remainder m p)))
step m p k c same zero =
    let u : List Bool = c ∷ remainder m p in
    let x : List Bool = cond (get_or u (length m) false) (m ++ true ∷ []) [] in
    let kb : List Bool = false ∷ product k (m ++ true ∷ []) in
    let back = fold_back m u (get_or u (length m) false) 0 (ap suc (length-remainder m p)) refl in
    back ∙ ap (λ (y : Bool). plus y (get_or (less_modulus m u) 0 false)) (sym (plus_false (get_or x 0 false)) ∙ sym (get_or-add x kb 0))
    ∙ sym (get_or-add (add x kb) (less_modulus m u) 0)
step m p k c same (suc j) =
    let u : List Bool = c ∷ remainder m p in
    let x : List Bool = cond (get_or u (length m) false) (m ++ true ∷ []) [] in
    let kb : List Bool = false ∷ product k (m ++ true ∷ []) in
    let back = fold_back m u (get_or u (length m) false) (suc j) (ap suc (length-remainder m p)) refl in
    same j ∙ get_or-add (product k (m ++ true ∷ [])) (remainder m p) j
    ∙ ap (plus (get_or (product k (m ++ true ∷ [])) j false)) back
    ∙ turned (get_or x (suc j) false) (get_or (product k (m ++ true ∷ [])) j false) (get_or (less_modulus m u) (suc j) false)
    ∙ ap (λ (y : Bool). plus y (get_or (less_modulus m u) (suc j) false)) (sym (get_or-add x kb (suc j)))
    ∙ sym (get_or-add (add x kb) (less_modulus m u) (suc j))

pub division : (m p : List Bool) → IsRemainder m p (remainder m p)
unfolding remainder
division m [] = (length-remainder m [], ([], λ i. sym (get_or-zeros (length m) i)))
division m (c ∷ p) =
    let before : IsRemainder m p (remainder m p) = division m p in
    (length-remainder m (c ∷ p), (get_or (c ∷ remainder m p) (length m) false ∷ before.1.0, step m p before.1.0 c before.1.1))
