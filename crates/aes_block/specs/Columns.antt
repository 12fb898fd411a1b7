-- A state, and round keys, as words: one for each column, whose highest byte is in the first row.
use Rattle.std.specs.Prelude.{ℕ, zero, suc, ◌+◌, ◌*◌, List, [], ◌∷◌, ◌++◌, slice_index, bit_xor}
use Rattle.std.specs.Int.{w32, byte_at, from_be_bytes, to_be_bytes}
use Rattle.aes_block.specs.Aes.{sub_byte, mixed}

-- the 16 bytes of the four words from word n on
abbrev pub bytes_from : List ℕ → ℕ → List ℕ
bytes_from w n =
    to_be_bytes w32 (slice_index w n) ++ to_be_bytes w32 (slice_index w (n + 1))
    ++ to_be_bytes w32 (slice_index w (n + 2)) ++ to_be_bytes w32 (slice_index w (n + 3))

-- the bytes of word i of a list of bytes
abbrev pub word_bytes : List ℕ → ℕ → List ℕ
word_bytes b i =
    slice_index b (4 * i) ∷ slice_index b (4 * i + 1) ∷ slice_index b (4 * i + 2) ∷ slice_index b (4 * i + 3) ∷ []

-- the first n words of a list of bytes
unfoldable pub words_of : List ℕ → ℕ → List ℕ
words_of b zero = []
words_of b (suc n) = words_of b n ++ from_be_bytes w32 (word_bytes b n) ∷ []

-- one column behind SubBytes and ShiftRows, from the four that its bytes stand in before
abbrev pub mixed_column : ℕ → ℕ → ℕ → ℕ → List ℕ
mixed_column a b c d =
    let p : ℕ = sub_byte (byte_at 3 a) in
    let q : ℕ = sub_byte (byte_at 2 b) in
    let r : ℕ = sub_byte (byte_at 1 c) in
    let s : ℕ = sub_byte (byte_at 0 d) in
    mixed p q r s ∷ mixed q r s p ∷ mixed r s p q ∷ mixed s p q r ∷ []

-- a column and a word, added
abbrev pub plus_word : List ℕ → ℕ → List ℕ
plus_word v k =
    bit_xor (slice_index v 0) (byte_at 3 k) ∷ bit_xor (slice_index v 1) (byte_at 2 k)
    ∷ bit_xor (slice_index v 2) (byte_at 1 k) ∷ bit_xor (slice_index v 3) (byte_at 0 k) ∷ []
