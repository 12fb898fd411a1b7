-- The components of a text in which each stands after a slash.
use Rattle.std.specs.Prelude.{◌≡◌, ℕ, List, [], ◌∷◌, ◌++◌, ◌==◌, if◌then◌else◌, All}
use Rattle.zk_path.specs.Paths.{HasNoSlash, joined}

-- the last component with one more byte
unfoldable pub with_byte : List (List ℕ) → ℕ → List (List ℕ)
with_byte [] b = []
with_byte (n ∷ p) b = (n ++ b ∷ []) ∷ p

-- a slash begins a component
unfoldable pub with_bytes : List (List ℕ) → List ℕ → List (List ℕ)
with_bytes p [] = p
with_bytes p (b ∷ bs) = with_bytes (if b == 47 then [] ∷ p else with_byte p b) bs

unfoldable pub components : List ℕ → List (List ℕ)
components text = with_bytes [] text

-- the path is a component under what the text spells
pub record IsCut (path : List (List ℕ)) (above name : List ℕ) : Type 0 where
  pub parts : List (List ℕ)
  pub whole : path ≡ name ∷ parts
  pub upper : above ≡ joined parts
  pub plain : All HasNoSlash path
