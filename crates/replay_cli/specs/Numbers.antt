-- Numbers in words and scripts.
use Rattle.std.specs.Prelude.{◌≡◌, ℕ, ◌≤◌, List}
use Rattle.std.specs.Fmt.{decimal}

-- the text is a number from the low one to the high one, in decimal digits without a sign or a leading zero
abbrev pub IsNumber : ℕ → ℕ → List ℕ → Type 0
IsNumber low high text = (n : ℕ) × (low ≤ n) × (n ≤ high) × (text ≡ decimal n)
