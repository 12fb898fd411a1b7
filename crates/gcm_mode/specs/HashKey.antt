-- What GHASH multiplies by.
use Rattle.std.specs.Prelude.{ℕ, List, replicate}
use Rattle.std.specs.Int.{w128, from_be_bytes}
use Rattle.aes_block.specs.Aes.{Aes}

-- the hash key: the block of zeros, enciphered (SP 800-38D, 7.1)
unfoldable pub hash_key : List ℕ → ℕ
hash_key k = from_be_bytes w128 (Aes k (replicate 16 0))
