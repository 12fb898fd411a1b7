-- The field of bytes, computed over all 256 of them.
use Rattle.std.proofs.Common.{◌≡◌, ℕ, zero, suc, ◌+◌, ◌*◌, ◌/◌, ◌%◌, ◌<◌, ◌==◌, Bool, true, ◌&&◌, slice_index, bit_and, bit_xor, refl, sym, arith, inl, inr}
use Rattle.std.proofs.lemmas.Bool.{and_parts, cases_lt, eqb-true}
use Rattle.aes_block.specs.Polynomial.{remainder}
use Rattle.aes_block.specs.Aes.{times, inverse, sub_byte, x_to}
use Rattle.aes_block.specs.declared.sbox.TheConstants.{SBOX}
use Rattle.aes_block.specs.declared.schedule.TheConstants.{ROUND_CONSTANTS}

-- p holds of each number below n
abbrev pub all_below : (ℕ → Bool) → ℕ → Bool
all_below p zero = true
all_below p (suc n) = p n && all_below p n

pub all_below_at : (p : ℕ → Bool) (n k : ℕ) → all_below p n ≡ true → k < n → p k ≡ true
all_below_at p zero k h lt = absurd (omega arith)
all_below_at p (suc n) k h lt =
    let parts = and_parts (p n) (all_below p n) h in
    elim (cases_lt k n) [
      | inl below ↦ all_below_at p n k parts.1 below
      | inr top ↦
          let e : k ≡ n = omega arith in
          rw e parts.0
    ]

-- two functions that a computed test found equal below n
pub all_same : (f g : ℕ → ℕ) (n k : ℕ) → all_below (λ b. f b == g b) n ≡ true → k < n → f k ≡ g k
all_same f g n k all lt = eqb-true (f k) (g k) (all_below_at (λ b. f b == g b) n k all lt)

unfoldable pub doubled : ℕ → ℕ
doubled b = bit_xor (bit_and b 127 * 2 % 256) (b / 128 * 0x1b)

doubles : all_below (λ b. doubled b == times 2 b) 256 ≡ true
unfolding times remainder doubled
doubles = refl

pub doubled_at : (b : ℕ) → b < 256 → doubled b ≡ times 2 b
doubled_at b lt = all_same doubled (times 2) 256 b doubles lt

pub double_at : (b : ℕ) → b < 256 → bit_xor (bit_and b 127 * 2 % 256) (b / 128 * 0x1b) ≡ times 2 b
unfolding doubled
double_at b lt = all_same doubled (times 2) 256 b doubles lt

triples : all_below (λ b. bit_xor (times 2 b) b == times 3 b) 256 ≡ true
unfolding times remainder
triples = refl

pub triple_at : (b : ℕ) → b < 256 → bit_xor (times 2 b) b ≡ times 3 b
triple_at b lt = all_same (λ b. bit_xor (times 2 b) b) (times 3) 256 b triples lt

constants : all_below (λ n. slice_index ROUND_CONSTANTS n == x_to n) 10 ≡ true
unfolding times remainder
constants = refl

pub round_constant_at : (n : ℕ) → n < 10 → slice_index ROUND_CONSTANTS n ≡ x_to n
round_constant_at n lt = all_same (slice_index ROUND_CONSTANTS) x_to 10 n constants lt

-- the S-box is the standard's at the 16 bytes from 16 i on: a computation over all 256 at once is too long
row : ℕ → Bool
row i = all_below (λ j. sub_byte (16 * i + j) == slice_index SBOX (16 * i + j)) 16

row_0 : row 0 ≡ true
unfolding row times remainder sub_byte inverse
row_0 = refl

row_1 : row 1 ≡ true
unfolding row times remainder sub_byte inverse
row_1 = refl

row_2 : row 2 ≡ true
unfolding row times remainder sub_byte inverse
row_2 = refl

row_3 : row 3 ≡ true
unfolding row times remainder sub_byte inverse
row_3 = refl

row_4 : row 4 ≡ true
unfolding row times remainder sub_byte inverse
row_4 = refl

row_5 : row 5 ≡ true
unfolding row times remainder sub_byte inverse
row_5 = refl

row_6 : row 6 ≡ true
unfolding row times remainder sub_byte inverse
row_6 = refl

row_7 : row 7 ≡ true
unfolding row times remainder sub_byte inverse
row_7 = refl

row_8 : row 8 ≡ true
unfolding row times remainder sub_byte inverse
row_8 = refl

row_9 : row 9 ≡ true
unfolding row times remainder sub_byte inverse
row_9 = refl

row_10 : row 10 ≡ true
unfolding row times remainder sub_byte inverse
row_10 = refl

row_11 : row 11 ≡ true
unfolding row times remainder sub_byte inverse
row_11 = refl

row_12 : row 12 ≡ true
unfolding row times remainder sub_byte inverse
row_12 = refl

row_13 : row 13 ≡ true
unfolding row times remainder sub_byte inverse
row_13 = refl

row_14 : row 14 ≡ true
unfolding row times remainder sub_byte inverse
row_14 = refl

row_15 : row 15 ≡ true
unfolding row times remainder sub_byte inverse
row_15 = refl

rows : all_below row 16 ≡ true
rows = rw (row_0, row_1, row_2, row_3, row_4, row_5, row_6, row_7, row_8, row_9, row_10, row_11, row_12, row_13, row_14, row_15) refl

pub sub_byte_at : (b : ℕ) → b < 256 → slice_index SBOX b ≡ sub_byte b
unfolding row
sub_byte_at b lt =
    let i : ℕ = b / 16 in
    let j : ℕ = b % 16 in
    let there : row i ≡ true = all_below_at row 16 i rows (omega arith) in
    let same : 16 * i + j ≡ b = omega arith in
    sym (rw same at (all_same (λ j. sub_byte (16 * i + j)) (λ j. slice_index SBOX (16 * i + j)) 16 j there (omega arith)))
