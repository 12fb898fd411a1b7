-- What the operations of the definition are said to be, in the words of algebra.
use Rattle.std.specs.Prelude.{◌≡◌, ℕ, ◌<◌, Bool, true, false, List, [], ◌∷◌, ◌++◌, length, slice_index, slice_index_or}
use Rattle.aes_block.specs.Polynomial.{add, product, remainder}
use Rattle.aes_block.specs.Aes.{Aes, inverse, times}

-- the inverse of a byte is a byte, its product with the byte is 1, and 0 stands for that of 0
abbrev pub InverseIsInverse : Type 0
InverseIsInverse =
    ((a : ℕ) → inverse a < 256) × ((a : ℕ) → 0 < a → a < 256 → times a (inverse a) ≡ 1) × (inverse 0 ≡ 0)

-- the same coefficients, perhaps with further zeros
abbrev pub Same : List Bool → List Bool → Type 0
Same p q = (i : ℕ) → slice_index_or p i false ≡ slice_index_or q i false

-- r has as many coefficients as m, and p is r and a multiple of x ^ n + m, where n is their number
abbrev pub IsRemainder : List Bool → List Bool → List Bool → Type 0
IsRemainder m p r =
    (length r ≡ length m) × ((k : List Bool) × Same p (add (product k (m ++ true ∷ [])) r))

abbrev pub RemainderIsRemainder : Type 0
RemainderIsRemainder = (m p : List Bool) → IsRemainder m p (remainder m p)

abbrev pub IsBytes : List ℕ → Type 0
IsBytes xs = (i : ℕ) → slice_index xs i < 256

-- what a block is enciphered to has 16 items, and they are bytes if those of the key are
abbrev pub EnciphersToBlocks : Type 0
EnciphersToBlocks = ((k b : List ℕ) → length (Aes k b) ≡ 16) × ((k b : List ℕ) → IsBytes k → IsBytes (Aes k b))
