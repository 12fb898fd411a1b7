-- The same elements in another order.
use Rattle.std.specs.Prelude.{List, [], ◌∷◌}

pub data Shuffles {A : Type 0} : List A → List A → Type 0 where
  nothing : Shuffles [] []
  kept : (x : A) (xs ys : List A) → Shuffles xs ys → Shuffles (x ∷ xs) (x ∷ ys)
  swapped : (x y : A) (xs : List A) → Shuffles (x ∷ y ∷ xs) (y ∷ x ∷ xs)
  joined : (xs ys zs : List A) → Shuffles xs ys → Shuffles ys zs → Shuffles xs zs
