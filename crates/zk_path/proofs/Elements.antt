-- Elements of lists.
use Rattle.std.proofs.Common.{◌≡◌, ℕ, List, [], ◌∷◌, get_or, zero, suc, refl}

-- an element is its own default
pub get_or_itself : (xs : List ℕ) (k d : ℕ) → get_or xs k (get_or xs k d) ≡ get_or xs k d
get_or_itself [] k d = refl
get_or_itself (x ∷ xs) zero d = refl
get_or_itself (x ∷ xs) (suc k) d = get_or_itself xs k d
