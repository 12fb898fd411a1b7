-- An enclave that numbers sealed stems: what it holds, and which names it gives.
use Rattle.std.specs.Prelude.{◌≡◌, ℕ, ◌+◌, ◌-◌, ◌^◌, List, min}
use Rattle.zk_path.specs.Paths.{IsStem}
use Rattle.zk_path.specs.Numbers.{numbered}
use Rattle.path_seal.specs.Sealed.{Keys, AreKeys, SealPath, SealStem}

-- the keys of names, and how many numbers were given
pub record Enclave : Type 0 where
  pub keys : Keys
  pub issued : ℕ

-- the stem is the sealed text of a legal stem, and the text that of this stem with the number
pub record IsSealedName (k : Keys) (stem : List ℕ) (number : ℕ) (text : List ℕ) : Type 0 where
  pub whole : AreKeys k
  pub parts : List (List ℕ)
  pub legal : IsStem parts
  pub asked : stem ≡ SealStem k parts
  pub given : text ≡ SealPath k (numbered parts number)

-- a number more was given; the count stays at its last value
abbrev pub after_one : Enclave → Enclave
after_one e = record { keys = e.keys; issued = min (e.issued + 1) (2 ^ 64 - 1) }
