-- AES with a key of 128 bits (FIPS 197), on bytes as numbers below 256. Section numbers are the standard's.
use Rattle.std.specs.Prelude.{ℕ, zero, suc, ◌+◌, ◌-◌, ◌*◌, ◌/◌, ◌%◌, ◌==◌, Bool, true, false, List, [], ◌∷◌, ◌++◌, take, drop, slice_index, bit_xor, if◌then◌else◌}
use Rattle.std.specs.Int.{bit_at}
use Rattle.aes_block.specs.Polynomial.{product, remainder}

-- ---- bytes as elements of the field (4)

-- the first k bits of n, the lowest first: as coefficients, bit i is that of x ^ i
abbrev pub low_bits : ℕ → ℕ → List Bool
low_bits zero n = []
low_bits (suc k) n = (n % 2 == 1) ∷ low_bits k (n / 2)

-- the number with these bits
abbrev pub number : List Bool → ℕ
number [] = 0
number (c ∷ p) = (if c then 1 else 0) + 2 * number p

-- the product modulo x ^ 8 + x ^ 4 + x ^ 3 + x + 1 (4.2)
unfoldable pub times : ℕ → ℕ → ℕ
times a b = number (remainder (low_bits 8 0x1b) (product (low_bits 8 a) (low_bits 8 b)))

-- ---- the four steps of a round (5.1)

-- the greatest number below n whose product with a is 1, or 0 where there is none
abbrev pub inverse_below : ℕ → ℕ → ℕ
inverse_below zero a = 0
inverse_below (suc n) a = elim (times a n == 1) [ true ↦ n | false ↦ inverse_below n a ]

-- the byte whose product with a is 1, or 0 for 0 (4.2)
unfoldable pub inverse : ℕ → ℕ
inverse a = inverse_below 256 a

-- bit i of the affine map (5.1.1)
abbrev pub affine_bit : ℕ → ℕ → ℕ
affine_bit b i = (bit_at b i + bit_at b ((i + 4) % 8) + bit_at b ((i + 5) % 8) + bit_at b ((i + 6) % 8)
    + bit_at b ((i + 7) % 8) + bit_at 0x63 i) % 2

-- the affine map (5.1.1)
abbrev pub affine : ℕ → ℕ
affine b = affine_bit b 0 + affine_bit b 1 * 2 + affine_bit b 2 * 4 + affine_bit b 3 * 8
    + affine_bit b 4 * 16 + affine_bit b 5 * 32 + affine_bit b 6 * 64 + affine_bit b 7 * 128

-- SubBytes of one byte (5.1.1): the inverse, with 0 for 0, and the affine map
unfoldable pub sub_byte : ℕ → ℕ
sub_byte a = affine (inverse a)

-- the state with the byte f r c in row r and column c, column after column (3.4)
abbrev pub state : (ℕ → ℕ → ℕ) → List ℕ
state f =
    f 0 0 ∷ f 1 0 ∷ f 2 0 ∷ f 3 0 ∷ f 0 1 ∷ f 1 1 ∷ f 2 1 ∷ f 3 1 ∷
    f 0 2 ∷ f 1 2 ∷ f 2 2 ∷ f 3 2 ∷ f 0 3 ∷ f 1 3 ∷ f 2 3 ∷ f 3 3 ∷ []

-- the byte in row r and column c
abbrev pub at : List ℕ → ℕ → ℕ → ℕ
at s r c = slice_index s (r + 4 * c)

-- 5.1.1
abbrev pub sub_bytes : List ℕ → List ℕ
sub_bytes s = state (λ r c. sub_byte (at s r c))

-- 5.1.2
abbrev pub shift_rows : List ℕ → List ℕ
shift_rows s = state (λ r c. at s r ((c + r) % 4))

-- the sum of four bytes with the factors 02 03 01 01
abbrev pub mixed : ℕ → ℕ → ℕ → ℕ → ℕ
mixed a b c d = bit_xor (bit_xor (bit_xor (times 2 a) (times 3 b)) c) d

-- 5.1.3: the matrix with the rows 02 03 01 01, 01 02 03 01, 01 01 02 03, 03 01 01 02
abbrev pub mix_columns : List ℕ → List ℕ
mix_columns s = state (λ r c.
    mixed (at s r c) (at s ((r + 1) % 4) c) (at s ((r + 2) % 4) c) (at s ((r + 3) % 4) c))

-- 5.1.4
abbrev pub add_round_key : List ℕ → List ℕ → List ℕ
add_round_key s k = state (λ r c. bit_xor (at s r c) (at k r c))

-- ---- the key schedule (5.2), where byte j of word i is byte 4 i + j of a list

-- x ^ n in the field
abbrev pub x_to : ℕ → ℕ
x_to zero = 1
x_to (suc n) = times 2 (x_to n)

-- byte j of what is added to word i - 4: the word before, at each fourth word turned, substituted, and
-- with Rcon [i / 4] added
abbrev pub schedule_byte : List ℕ → ℕ → ℕ → ℕ
schedule_byte w i j =
    if i % 4 == 0
    then bit_xor (sub_byte (slice_index w (4 * (i - 1) + (j + 1) % 4))) (if j == 0 then x_to (i / 4 - 1) else 0)
    else slice_index w (4 * (i - 1) + j)

-- byte j of word i, from the words before it
abbrev pub next_byte : List ℕ → ℕ → ℕ → ℕ
next_byte w i j = bit_xor (slice_index w (4 * (i - 4) + j)) (schedule_byte w i j)

-- word i, from the words before it
abbrev pub next_word : List ℕ → ℕ → List ℕ
next_word w i = next_byte w i 0 ∷ next_byte w i 1 ∷ next_byte w i 2 ∷ next_byte w i 3 ∷ []

-- the words before word 4 + n
unfoldable pub expanded : List ℕ → ℕ → List ℕ
expanded k zero = k
expanded k (suc n) = expanded k n ++ next_word (expanded k n) (n + 4)

-- the four words of round n, of the 44 words w
abbrev pub round_key : List ℕ → ℕ → List ℕ
round_key w n = take 16 (drop (16 * n) w)

-- ---- the cipher (5.1)

-- the state after the first n rounds, with the words w
unfoldable pub after_rounds : List ℕ → List ℕ → ℕ → List ℕ
after_rounds w b zero = add_round_key b (round_key w 0)
after_rounds w b (suc n) =
    add_round_key (mix_columns (shift_rows (sub_bytes (after_rounds w b n)))) (round_key w (n + 1))

-- ten rounds, the last of them without MixColumns
abbrev pub cipher : List ℕ → List ℕ → List ℕ
cipher w b = add_round_key (shift_rows (sub_bytes (after_rounds w b 9))) (round_key w 10)

unfoldable pub Aes : List ℕ → List ℕ → List ℕ
Aes k b = cipher (expanded k 40) b
