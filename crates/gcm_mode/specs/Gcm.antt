-- GCM over AES with a key of 128 bits, an IV of 96 bits and a tag of 128 bits (NIST SP 800-38D), on lists of bytes.
use Rattle.std.specs.Prelude.{Option, Some, None, nat_lt, if◌then◌else◌, ℕ, zero, suc, ◌+◌, ◌*◌, ◌%◌, ◌^◌, List, [], ◌∷◌, ◌++◌, length, take, drop, replicate, bit_xor}
use Rattle.std.specs.Int.{w32, w128, from_be_bytes, to_be_bytes}
use Rattle.aes_block.specs.Aes.{Aes}
use Rattle.gcm_mode.specs.Ghash.{blocks, block_count, ghash}

-- the rightmost 32 bits of a block, plus 1 (6.2)
abbrev pub inc32 : List ℕ → List ℕ
inc32 b = take 12 b ++ to_be_bytes w32 ((from_be_bytes w32 (drop 12 b) + 1) % 2 ^ 32)

-- counter block n, from the first one
unfoldable pub counter : List ℕ → ℕ → List ℕ
counter b zero = b
counter b (suc n) = inc32 (counter b n)

-- the exclusive or, as long as the shorter list
abbrev pub xor_bytes : List ℕ → List ℕ → List ℕ
xor_bytes [] ys = []
xor_bytes (x ∷ xs) [] = []
xor_bytes (x ∷ xs) (y ∷ ys) = bit_xor x y ∷ xor_bytes xs ys

-- the first n blocks of GCTR, from the counter block b (6.5)
unfoldable pub gctr_blocks : List ℕ → List ℕ → List ℕ → ℕ → List ℕ
gctr_blocks k b x zero = []
gctr_blocks k b x (suc n) = gctr_blocks k b x n ++ xor_bytes (take 16 (drop (16 * n) x)) (Aes k (counter b n))

abbrev pub gctr : List ℕ → List ℕ → List ℕ → List ℕ
gctr k b x = gctr_blocks k b x (block_count x)

-- J0: the IV, 31 zero bits and a 1 (7.1)
abbrev pub first_counter : List ℕ → List ℕ
first_counter iv = iv ++ 0 ∷ 0 ∷ 0 ∷ 1 ∷ []

-- the ciphertext of a plain text, and the other way round (7.1, 7.2)
unfoldable pub text_under : List ℕ → List ℕ → List ℕ → List ℕ
text_under k iv x = gctr k (inc32 (first_counter iv)) x

-- the blocks of the additional data a and of the ciphertext c, and the block of their lengths in bits
abbrev pub tagged_blocks : List ℕ → List ℕ → List ℕ
tagged_blocks a c = blocks a (block_count a) ++ blocks c (block_count c) ++ (length a * 8 * 2 ^ 64 + length c * 8) ∷ []

-- the tag of the additional data a and the ciphertext c (7.1)
unfoldable pub gcm_tag : List ℕ → List ℕ → List ℕ → List ℕ → List ℕ
gcm_tag k iv a c =
    let h = from_be_bytes w128 (Aes k (replicate 16 0)) in
    gctr k (first_counter iv) (to_be_bytes w128 (ghash h 0 (tagged_blocks a c)))

-- the ciphertext and the tag of the plain text p (7.1)
abbrev pub Gcm : List ℕ → List ℕ → List ℕ → List ℕ → List ℕ
Gcm k iv a p = text_under k iv p ++ gcm_tag k iv a (text_under k iv p)

-- the length that passes 2 ^ 28: that of the text x, or else that of the additional data a
unfoldable pub passed_length : List ℕ → List ℕ → Option ℕ
passed_length a x =
    if nat_lt (2 ^ 28) (length x) then Some (length x) else (if nat_lt (2 ^ 28) (length a) then Some (length a) else None)
