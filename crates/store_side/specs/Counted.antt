-- How many bytes a spelling has, as a usize says it.
use Rattle.std.specs.Prelude.{◌≡◌, ℕ, ◌-◌, ◌^◌, List, length, min}

-- there are such bytes, and this is their number, or the last usize where they are more
pub record IsCounted (Is : List ℕ → Type 0) (n : ℕ) : Type 0 where
  pub bytes : List ℕ
  pub is : Is bytes
  pub number : n ≡ min (length bytes) (2 ^ 64 - 1)
