-- What a file of keys holds.
use Rattle.std.proofs.Common.{◌≡◌, ℕ, ◌-◌, ◌/◌, ◌%◌, ◌≤◌, List, ◌∷◌, take, drop, ◌∙◌, arith}
use Rattle.payload_seal.specs.Keys.{IsKeyFileSize, keys_in, payload_keys}

pub file_size : (size : ℕ) → 64 ≤ size → size ≤ 4144 → size % 16 ≡ 0 → IsKeyFileSize size
file_size size low high whole = ((size - 64) / 16, omega (arith, low, high, whole), omega (arith, low, high, whole))

pub keys_read : (file first later : List ℕ) (count n : ℕ) (keys : List (List ℕ)) → keys ≡ first ∷ keys_in later count → first ≡ take 16 (drop 16 file) → later ≡ drop 64 file → count ≡ n → keys ≡ payload_keys file n
keys_read file first later count n keys e f g h = e ∙ (λ i. f i ∷ keys_in (g i) (h i))
