-- GHASH (NIST SP 800-38D, 6.3 and 6.4). A block is a number below 2 ^ 128; its leftmost bit is the highest, and is the
-- coefficient of x ^ 0.
use Rattle.std.specs.Prelude.{ℕ, zero, suc, ◌+◌, ◌*◌, ◌/◌, ◌^◌, ◌==◌, Bool, true, false, List, [], ◌∷◌, ◌++◌, length, take, drop, replicate, bit_xor, if◌then◌else◌}
use Rattle.std.specs.Int.{bit_at, w128, from_be_bytes}
use Rattle.aes_block.specs.Polynomial.{product, remainder}

-- the lowest k bits of n, from the leftmost to the rightmost
unfoldable pub bits : ℕ → ℕ → List Bool
bits zero n = []
bits (suc k) n = (bit_at n k == 1) ∷ bits k n

-- the number with these bits
unfoldable pub number : List Bool → ℕ
number [] = 0
number (c ∷ p) = (if c then 1 else 0) * 2 ^ length p + number p

-- x ^ 128 + x ^ 7 + x ^ 2 + x + 1 without its highest coefficient: to this x ^ 128 is equal
unfoldable pub modulus : List Bool
modulus = true ∷ true ∷ true ∷ false ∷ false ∷ false ∷ false ∷ true ∷ replicate 120 false

-- the product of two blocks: of their polynomials, modulo x ^ 128 + x ^ 7 + x ^ 2 + x + 1 (6.3)
unfoldable pub times : ℕ → ℕ → ℕ
times x y = number (remainder modulus (product (bits 128 x) (bits 128 y)))

-- block n of a text: its bytes from 16 n on, filled up with zeros
abbrev pub padded_block : List ℕ → ℕ → List ℕ
padded_block x n = take 16 (drop (16 * n) x ++ replicate 16 0)

-- the first n blocks of a text
unfoldable pub blocks : List ℕ → ℕ → List ℕ
blocks x zero = []
blocks x (suc n) = blocks x n ++ from_be_bytes w128 (padded_block x n) ∷ []

-- how many blocks a text has, the last of them perhaps not full
abbrev pub block_count : List ℕ → ℕ
block_count x = (length x + 15) / 16

-- GHASH on blocks, from y (6.4)
unfoldable pub ghash : ℕ → ℕ → List ℕ → ℕ
ghash h y [] = y
ghash h y (b ∷ bs) = ghash h (times (bit_xor y b) h) bs
