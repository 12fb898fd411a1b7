-- Additional data that is hashed piece by piece, before it is known where it ends.
use Rattle.std.specs.Prelude.{◌≡◌, ℕ, ◌/◌, List, length}
use Rattle.gcm_mode.specs.Ghash.{padded_block, blocks, ghash}
use Rattle.gcm_mode.specs.HashKey.{hash_key}
use Rattle.gcm_mode.specs.declared.absorbed.Absorbed.{Absorbed}

-- under the key k, s stands for the additional data a: the hash of its whole blocks, what is left of it, and its length
pub record IsAbsorbed (k : List ℕ) (s : Absorbed) (a : List ℕ) : Type 0 where
  pub hash : s.hash ≡ ghash (hash_key k) 0 (blocks a (length a / 16))
  pub part : s.part ≡ padded_block a (length a / 16)
  pub size : s.length ≡ length a
