-- Names that are copied, or counted, one after another.
use Rattle.std.proofs.Common.{◌≡◌, ℕ, ◌+◌, ◌-◌, ◌^◌, ◌≤◌, List, [], ◌∷◌, ◌++◌, length, min, refl, String, Global, string_bytes, map, sym, ap, subst, ◌∙◌, append_assoc, append-nil, arith}
use Rattle.tree_state.specs.Places.{names_length, counted_length}

pub one_copied : (made all : List (List ℕ)) (left rest : List (String Global)) (k : String Global) (name : List ℕ) → made ++ map string_bytes left ≡ all → left ≡ k ∷ rest → name ≡ string_bytes k
    → (made ++ name ∷ []) ++ map string_bytes rest ≡ all
one_copied made all left rest k name so_far next same =
    append_assoc made (name ∷ []) (map string_bytes rest)
    ∙ ap (λ (x : List ℕ). made ++ x ∷ map string_bytes rest) same
    ∙ sym (ap (λ (xs : List (String Global)). made ++ map string_bytes xs) next)
    ∙ so_far

pub all_copied : (made all : List (List ℕ)) (left : List (String Global)) → made ++ map string_bytes left ≡ all → left ≡ [] → made ≡ all
all_copied made all left so_far none = sym (append-nil made) ∙ sym (ap (λ (xs : List (String Global)). made ++ map string_bytes xs) none) ∙ so_far

-- what is counted so far, with what is left to count
abbrev pub counted_with : ℕ → List (String Global) → ℕ
counted_with total left = min (total + names_length (map string_bytes left)) (2 ^ 64 - 1)

-- a sum that is capped at each step is the capped sum
capped : (total name size rest whole all : ℕ) → whole ≡ (4 + name) + rest → size ≡ name → min (total + whole) (2 ^ 64 - 1) ≡ all
    → min (min (min (total + 4) (2 ^ 64 - 1) + size) (2 ^ 64 - 1) + rest) (2 ^ 64 - 1) ≡ all
capped total name size rest whole all listed same with_it = omega (arith, listed, same, with_it)

pub one_counted : (total all size : ℕ) (left rest : List (String Global)) (k : String Global) → counted_with total left ≡ all → left ≡ k ∷ rest → size ≡ length (string_bytes k)
    → counted_with (min (min (total + 4) (2 ^ 64 - 1) + size) (2 ^ 64 - 1)) rest ≡ all
one_counted total all size left rest k so_far next same =
    let with_it : counted_with total (k ∷ rest) ≡ all = subst (λ (xs : List (String Global)). counted_with total xs ≡ all) next so_far in
    let listed : names_length (map string_bytes (k ∷ rest)) ≡ (4 + length (string_bytes k)) + names_length (map string_bytes rest) = refl in
    capped total (length (string_bytes k)) size (names_length (map string_bytes rest)) (names_length (map string_bytes (k ∷ rest))) all listed same with_it

pub all_counted : (total : ℕ) (keys left : List (String Global)) → total ≤ 2 ^ 64 - 1 → counted_with total left ≡ counted_with 0 keys → left ≡ [] → total ≡ counted_length (map string_bytes keys)
unfolding counted_length
all_counted total keys left fits so_far none =
    let without : counted_with total [] ≡ counted_with 0 keys = subst (λ (xs : List (String Global)). counted_with total xs ≡ counted_with 0 keys) none so_far in
    omega (arith, without)
