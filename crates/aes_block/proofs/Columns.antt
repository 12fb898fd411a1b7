-- The tables, computed over all 256 bytes, and words as bytes.
use Rattle.std.proofs.Common.{◌≡◌, ◌≢◌, ℕ, zero, suc, ◌+◌, ◌*◌, ◌/◌, ◌%◌, ◌^◌, ◌<◌, ◌≤◌, ◌==◌, true, List, [], ◌∷◌, ◌++◌, length, take, drop, slice_index, set, get_or, bit_xor, refl, sym, ap, ◌∙◌, arith, inl, inr}
use Rattle.std.proofs.lemmas.Bool.{cases_lt}
use Rattle.std.proofs.lemmas.List.{length-append, take_more_set, get_or_push, get_or_append_left, at_drop_more, get_or-set_same, get_or-set_other, drop-drop}
use Rattle.std.proofs.lemmas.Nat.{be_bytes_4}
use Rattle.std.specs.Int.{w32, byte_at, from_be_bytes, to_be_bytes}
use lib.Bits.{xor_shr, xor_mod, xor_comm, xor_assoc}
use Rattle.aes_block.specs.Aes.{times, sub_byte, mixed, round_key, sub_bytes, shift_rows, mix_columns, add_round_key, after_rounds}
use Rattle.aes_block.specs.Columns.{bytes_from, word_bytes, words_of, mixed_column, plus_word}
use Rattle.aes_block.specs.declared.sbox.TheConstants.{SBOX}
use Rattle.aes_block.specs.declared.tables.TheConstants.{FIRST, SECOND, THIRD, FOURTH}
use Rattle.aes_block.proofs.Bytes.{all_below, all_same, doubled, doubled_at, triple_at, sub_byte_at}
use Rattle.aes_block.proofs.Fits.{sub_byte-lt, times-lt}

-- ---- the tables

tripled : ℕ → ℕ
tripled s = bit_xor (doubled s) s

tripled_at : (s : ℕ) → s < 256 → tripled s ≡ times 3 s
unfolding tripled
tripled_at s lt = ap (λ (d : ℕ). bit_xor d s) (doubled_at s lt) ∙ triple_at s lt

four_bytes : (a b c d : ℕ) → a < 256 → b < 256 → c < 256 → d < 256 → (i : ℕ) → get_or (a ∷ b ∷ c ∷ d ∷ []) i 0 < 256
four_bytes a b c d ha hb hc hd zero = ha
four_bytes a b c d ha hb hc hd (suc zero) = hb
four_bytes a b c d ha hb hc hd (suc (suc zero)) = hc
four_bytes a b c d ha hb hc hd (suc (suc (suc zero))) = hd
four_bytes a b c d ha hb hc hd (suc (suc (suc (suc i)))) = omega arith

first_all : all_below (λ b. slice_index FIRST b == from_be_bytes w32 (doubled (slice_index SBOX b) ∷ slice_index SBOX b ∷ slice_index SBOX b ∷ tripled (slice_index SBOX b) ∷ [])) 256 ≡ true
unfolding doubled tripled
first_all = refl

pub first_at : (b s : ℕ) → s ≡ sub_byte b → b < 256 → to_be_bytes w32 (slice_index FIRST b) ≡ times 2 s ∷ s ∷ s ∷ times 3 s ∷ []
first_at b s e lt =
    let below : s < 256 = rw e (sub_byte-lt b) in
    let own : slice_index SBOX b ≡ s = sub_byte_at b lt ∙ sym e in
    let entry : slice_index FIRST b ≡ from_be_bytes w32 (times 2 s ∷ s ∷ s ∷ times 3 s ∷ []) =
    all_same (slice_index FIRST) (λ b. from_be_bytes w32 (doubled (slice_index SBOX b) ∷ slice_index SBOX b ∷ slice_index SBOX b ∷ tripled (slice_index SBOX b) ∷ [])) 256 b first_all lt
    ∙ ap (λ (s : ℕ). from_be_bytes w32 (doubled s ∷ s ∷ s ∷ tripled s ∷ [])) own
    ∙ (λ i. from_be_bytes w32 (doubled_at s below i ∷ s ∷ s ∷ tripled_at s below i ∷ [])) in
    be_bytes_4 (times 2 s ∷ s ∷ s ∷ times 3 s ∷ []) (slice_index FIRST b) refl (four_bytes (times 2 s) s s (times 3 s) (times-lt 2 s) below below (times-lt 3 s)) entry

second_all : all_below (λ b. slice_index SECOND b == from_be_bytes w32 (tripled (slice_index SBOX b) ∷ doubled (slice_index SBOX b) ∷ slice_index SBOX b ∷ slice_index SBOX b ∷ [])) 256 ≡ true
unfolding doubled tripled
second_all = refl

pub second_at : (b s : ℕ) → s ≡ sub_byte b → b < 256 → to_be_bytes w32 (slice_index SECOND b) ≡ times 3 s ∷ times 2 s ∷ s ∷ s ∷ []
second_at b s e lt =
    let below : s < 256 = rw e (sub_byte-lt b) in
    let own : slice_index SBOX b ≡ s = sub_byte_at b lt ∙ sym e in
    let entry : slice_index SECOND b ≡ from_be_bytes w32 (times 3 s ∷ times 2 s ∷ s ∷ s ∷ []) =
    all_same (slice_index SECOND) (λ b. from_be_bytes w32 (tripled (slice_index SBOX b) ∷ doubled (slice_index SBOX b) ∷ slice_index SBOX b ∷ slice_index SBOX b ∷ [])) 256 b second_all lt
    ∙ ap (λ (s : ℕ). from_be_bytes w32 (tripled s ∷ doubled s ∷ s ∷ s ∷ [])) own
    ∙ (λ i. from_be_bytes w32 (tripled_at s below i ∷ doubled_at s below i ∷ s ∷ s ∷ [])) in
    be_bytes_4 (times 3 s ∷ times 2 s ∷ s ∷ s ∷ []) (slice_index SECOND b) refl (four_bytes (times 3 s) (times 2 s) s s (times-lt 3 s) (times-lt 2 s) below below) entry

third_all : all_below (λ b. slice_index THIRD b == from_be_bytes w32 (slice_index SBOX b ∷ tripled (slice_index SBOX b) ∷ doubled (slice_index SBOX b) ∷ slice_index SBOX b ∷ [])) 256 ≡ true
unfolding doubled tripled
third_all = refl

pub third_at : (b s : ℕ) → s ≡ sub_byte b → b < 256 → to_be_bytes w32 (slice_index THIRD b) ≡ s ∷ times 3 s ∷ times 2 s ∷ s ∷ []
third_at b s e lt =
    let below : s < 256 = rw e (sub_byte-lt b) in
    let own : slice_index SBOX b ≡ s = sub_byte_at b lt ∙ sym e in
    let entry : slice_index THIRD b ≡ from_be_bytes w32 (s ∷ times 3 s ∷ times 2 s ∷ s ∷ []) =
    all_same (slice_index THIRD) (λ b. from_be_bytes w32 (slice_index SBOX b ∷ tripled (slice_index SBOX b) ∷ doubled (slice_index SBOX b) ∷ slice_index SBOX b ∷ [])) 256 b third_all lt
    ∙ ap (λ (s : ℕ). from_be_bytes w32 (s ∷ tripled s ∷ doubled s ∷ s ∷ [])) own
    ∙ (λ i. from_be_bytes w32 (s ∷ tripled_at s below i ∷ doubled_at s below i ∷ s ∷ [])) in
    be_bytes_4 (s ∷ times 3 s ∷ times 2 s ∷ s ∷ []) (slice_index THIRD b) refl (four_bytes s (times 3 s) (times 2 s) s below (times-lt 3 s) (times-lt 2 s) below) entry

fourth_all : all_below (λ b. slice_index FOURTH b == from_be_bytes w32 (slice_index SBOX b ∷ slice_index SBOX b ∷ tripled (slice_index SBOX b) ∷ doubled (slice_index SBOX b) ∷ [])) 256 ≡ true
unfolding doubled tripled
fourth_all = refl

pub fourth_at : (b s : ℕ) → s ≡ sub_byte b → b < 256 → to_be_bytes w32 (slice_index FOURTH b) ≡ s ∷ s ∷ times 3 s ∷ times 2 s ∷ []
fourth_at b s e lt =
    let below : s < 256 = rw e (sub_byte-lt b) in
    let own : slice_index SBOX b ≡ s = sub_byte_at b lt ∙ sym e in
    let entry : slice_index FOURTH b ≡ from_be_bytes w32 (s ∷ s ∷ times 3 s ∷ times 2 s ∷ []) =
    all_same (slice_index FOURTH) (λ b. from_be_bytes w32 (slice_index SBOX b ∷ slice_index SBOX b ∷ tripled (slice_index SBOX b) ∷ doubled (slice_index SBOX b) ∷ [])) 256 b fourth_all lt
    ∙ ap (λ (s : ℕ). from_be_bytes w32 (s ∷ s ∷ tripled s ∷ doubled s ∷ [])) own
    ∙ (λ i. from_be_bytes w32 (s ∷ s ∷ tripled_at s below i ∷ doubled_at s below i ∷ [])) in
    be_bytes_4 (s ∷ s ∷ times 3 s ∷ times 2 s ∷ []) (slice_index FOURTH b) refl (four_bytes s s (times 3 s) (times 2 s) below below (times-lt 3 s) (times-lt 2 s)) entry

-- ---- the bytes of an exclusive or

byte_3-xor : (a b : ℕ) → byte_at 3 (bit_xor a b) ≡ bit_xor (byte_at 3 a) (byte_at 3 b)
byte_3-xor a b = ap (λ (n : ℕ). n % 256) (xor_shr a b 24) ∙ xor_mod (a / 2 ^ 24) (b / 2 ^ 24) 8

byte_2-xor : (a b : ℕ) → byte_at 2 (bit_xor a b) ≡ bit_xor (byte_at 2 a) (byte_at 2 b)
byte_2-xor a b = ap (λ (n : ℕ). n % 256) (xor_shr a b 16) ∙ xor_mod (a / 2 ^ 16) (b / 2 ^ 16) 8

byte_1-xor : (a b : ℕ) → byte_at 1 (bit_xor a b) ≡ bit_xor (byte_at 1 a) (byte_at 1 b)
byte_1-xor a b = ap (λ (n : ℕ). n % 256) (xor_shr a b 8) ∙ xor_mod (a / 2 ^ 8) (b / 2 ^ 8) 8

byte_0-xor : (a b : ℕ) → byte_at 0 (bit_xor a b) ≡ bit_xor (byte_at 0 a) (byte_at 0 b)
byte_0-xor a b = xor_mod a b 8

pub word-xor : (a b : ℕ) → to_be_bytes w32 (bit_xor a b) ≡ plus_word (to_be_bytes w32 a) b
word-xor a b = (λ i. byte_3-xor a b i ∷ byte_2-xor a b i ∷ byte_1-xor a b i ∷ byte_0-xor a b i ∷ [])

-- the sum of four bytes, the first of them last
turned : (p a b c : ℕ) → bit_xor (bit_xor (bit_xor p a) b) c ≡ bit_xor (bit_xor (bit_xor a b) c) p
turned p a b c =
    ap (λ (n : ℕ). bit_xor n c) (xor_assoc p a b) ∙ xor_assoc p (bit_xor a b) c ∙ xor_comm p (bit_xor (bit_xor a b) c)

-- two words as lists of bytes, added
plus_bytes : List ℕ → List ℕ → List ℕ
plus_bytes v w =
    bit_xor (slice_index v 0) (slice_index w 0) ∷ bit_xor (slice_index v 1) (slice_index w 1)
    ∷ bit_xor (slice_index v 2) (slice_index w 2) ∷ bit_xor (slice_index v 3) (slice_index w 3) ∷ []

word-plus : (a b : ℕ) (v w : List ℕ) → to_be_bytes w32 a ≡ v → to_be_bytes w32 b ≡ w → to_be_bytes w32 (bit_xor a b) ≡ plus_bytes v w
unfolding plus_bytes
word-plus a b v w ea eb = word-xor a b ∙ (λ i. plus_bytes (ea i) (eb i))

-- one column of a round, from the four words of the tables
pub column_is : (a b c d k t u v w p q r s : ℕ) → p ≡ sub_byte (byte_at 3 a) → q ≡ sub_byte (byte_at 2 b) → r ≡ sub_byte (byte_at 1 c) → s ≡ sub_byte (byte_at 0 d)
    → to_be_bytes w32 t ≡ times 2 p ∷ p ∷ p ∷ times 3 p ∷ [] → to_be_bytes w32 u ≡ times 3 q ∷ times 2 q ∷ q ∷ q ∷ []
    → to_be_bytes w32 v ≡ r ∷ times 3 r ∷ times 2 r ∷ r ∷ [] → to_be_bytes w32 w ≡ s ∷ s ∷ times 3 s ∷ times 2 s ∷ []
    → to_be_bytes w32 (bit_xor (bit_xor (bit_xor (bit_xor t u) v) w) k) ≡ plus_word (mixed_column a b c d) k
unfolding plus_bytes
column_is a b c d k t u v w p q r s ep eq er es et eu ev ew =
    let all : to_be_bytes w32 (bit_xor (bit_xor (bit_xor t u) v) w)
    ≡ mixed p q r s ∷ mixed q r s p ∷ mixed r s p q ∷ mixed s p q r ∷ [] =
    word-plus (bit_xor (bit_xor t u) v) w _ _ (word-plus (bit_xor t u) v _ _ (word-plus t u _ _ et eu) ev) ew
    ∙ (λ i. mixed p q r s ∷ turned p (times 2 q) (times 3 r) s i
    ∷ (turned p q (times 2 r) (times 3 s) ∙ turned q (times 2 r) (times 3 s) p) i
    ∷ sym (turned (times 2 s) (times 3 p) q r) i ∷ []) in
    word-xor (bit_xor (bit_xor (bit_xor t u) v) w) k ∙ ap (λ (l : List ℕ). plus_word l k) all
    ∙ (λ i. plus_word (mixed (ep i) (eq i) (er i) (es i) ∷ mixed (eq i) (er i) (es i) (ep i) ∷ mixed (er i) (es i) (ep i) (eq i) ∷ mixed (es i) (ep i) (eq i) (er i) ∷ []) k)

-- ---- the words of a list of bytes

pub length-words_of : (b : List ℕ) (n : ℕ) → length (words_of b n) ≡ n
unfolding words_of
length-words_of b zero = refl
length-words_of b (suc n) = length-append (words_of b n) (from_be_bytes w32 (word_bytes b n) ∷ []) ∙ omega (arith, length-words_of b n)

more_words : (b : List ℕ) (n : ℕ) → words_of b n ++ from_be_bytes w32 (word_bytes b n) ∷ [] ≡ words_of b (n + 1)
unfolding words_of
more_words b n =
    let e : suc n ≡ n + 1 = omega arith in
    ap (words_of b) e

pub one_word : (w b : List ℕ) (n v : ℕ) → take n w ≡ words_of b n → v ≡ from_be_bytes w32 (word_bytes b n) → n < length w → take (n + 1) (set w n v) ≡ words_of b (n + 1)
one_word w b n v held ev lt = take_more_set w n v lt ∙ (λ i. held i ++ ev i ∷ []) ∙ more_words b n

pub word_at : (b : List ℕ) (n i : ℕ) → i < n → slice_index (words_of b n) i ≡ from_be_bytes w32 (word_bytes b i)
unfolding words_of
word_at b zero i lt = absurd (omega arith)
word_at b (suc n) i lt = elim (cases_lt i n) [
  | inl below ↦ get_or_append_left (words_of b n) (from_be_bytes w32 (word_bytes b n) ∷ []) 0 i (omega (arith, length-words_of b n)) ∙ word_at b n i below
  | inr top ↦
      let e : i ≡ n = omega arith in
      rw e (get_or_push (words_of b n) (from_be_bytes w32 (word_bytes b n)) 0 n (length-words_of b n))
]

nothing_taken : (n : ℕ) → take {A = ℕ} n [] ≡ []
nothing_taken zero = refl
nothing_taken (suc n) = refl

take_parts : (j k : ℕ) (l : List ℕ) → take (j + k) l ≡ take j l ++ take k (drop j l)
take_parts zero k l = ap (λ (n : ℕ). take n l) (omega arith)
take_parts (suc j) k [] = nothing_taken (suc j + k) ∙ sym (nothing_taken k)
take_parts (suc j) k (x ∷ l) =
    let e : suc j + k ≡ suc (j + k) = omega arith in
    ap (λ (n : ℕ). take n (x ∷ l)) e ∙ ap (λ (m : List ℕ). x ∷ m) (take_parts j k l)

-- four bytes, written out
four_at : (b : List ℕ) (m : ℕ) → m + 4 ≤ length b → take 4 (drop m b) ≡ slice_index b m ∷ slice_index b (m + 1) ∷ slice_index b (m + 2) ∷ slice_index b (m + 3) ∷ []
four_at b m h =
    let two : m + 1 + 1 ≡ m + 2 = omega arith in
    let three : m + 2 + 1 ≡ m + 3 = omega arith in
    at_drop_more (take 4) b m 0 (omega arith)
    ∙ at_drop_more (λ l. slice_index b m ∷ take 3 l) b (m + 1) 0 (omega arith)
    ∙ ap (λ (j : ℕ). slice_index b m ∷ slice_index b (m + 1) ∷ take 2 (drop j b)) two
    ∙ at_drop_more (λ l. slice_index b m ∷ slice_index b (m + 1) ∷ take 2 l) b (m + 2) 0 (omega arith)
    ∙ ap (λ (j : ℕ). slice_index b m ∷ slice_index b (m + 1) ∷ slice_index b (m + 2) ∷ take 1 (drop j b)) three
    ∙ at_drop_more (λ l. slice_index b m ∷ slice_index b (m + 1) ∷ slice_index b (m + 2) ∷ take 1 l) b (m + 3) 0 (omega arith)

word_here : (b : List ℕ) (i m : ℕ) → m ≡ 4 * i → m + 4 ≤ length b → take 4 (drop m b) ≡ word_bytes b i
word_here b i m e h = four_at b m h ∙ ap (λ (j : ℕ). slice_index b j ∷ slice_index b (j + 1) ∷ slice_index b (j + 2) ∷ slice_index b (j + 3) ∷ []) e

-- the bytes of the words of one round are its round key
pub round_is : (w b : List ℕ) (n : ℕ) → n < 11 → length b ≡ 176 → ((i : ℕ) → i < 44 → to_be_bytes w32 (slice_index w i) ≡ word_bytes b i)
    → bytes_from w (4 * n) ≡ round_key b n
round_is w b n lt len same =
    let l : List ℕ = drop (16 * n) b in
    let part : (j m : ℕ) → 16 * n + m ≡ 4 * (4 * n + j) → 16 * n + m + 4 ≤ length b → 4 * n + j < 44 → to_be_bytes w32 (slice_index w (4 * n + j)) ≡ take 4 (drop m l) =
    λ j m e h lt. same (4 * n + j) lt ∙ sym (word_here b (4 * n + j) (16 * n + m) e h) ∙ ap (take 4) (sym (drop-drop m (16 * n) b)) in
    let first : to_be_bytes w32 (slice_index w (4 * n)) ≡ take 4 l = same (4 * n) (omega arith) ∙ sym (word_here b (4 * n) (16 * n) (omega arith) (omega arith)) in
    let split : take 16 l ≡ take 4 l ++ take 4 (drop 4 l) ++ take 4 (drop 8 l) ++ take 4 (drop 12 l) =
    take_parts 12 4 l
    ∙ ap (λ (r : List ℕ). r ++ take 4 (drop 12 l)) (take_parts 8 4 l ∙ ap (λ (r : List ℕ). r ++ take 4 (drop 8 l)) (take_parts 4 4 l)) in
    (λ i. first i ++ part 1 4 (omega arith) (omega arith) (omega arith) i ++ part 2 8 (omega arith) (omega arith) (omega arith) i ++ part 3 12 (omega arith) (omega arith) (omega arith) i)
    ∙ sym split

-- one column of the first round key, added
pub first_is : (a b c d k w : ℕ) → a < 256 → b < 256 → c < 256 → d < 256 → w ≡ from_be_bytes w32 (a ∷ b ∷ c ∷ d ∷ [])
    → to_be_bytes w32 (bit_xor w k) ≡ plus_word (a ∷ b ∷ c ∷ d ∷ []) k
first_is a b c d k w ha hb hc hd e =
    word-xor w k ∙ ap (λ (l : List ℕ). plus_word l k) (be_bytes_4 (a ∷ b ∷ c ∷ d ∷ []) w refl (four_bytes a b c d ha hb hc hd) e)

pub four_back : (b : List ℕ) (i w : ℕ) → ((j : ℕ) → get_or b j 0 < 256) → w ≡ from_be_bytes w32 (word_bytes b i) → to_be_bytes w32 w ≡ word_bytes b i
four_back b i w h e =
    be_bytes_4 (word_bytes b i) w refl (four_bytes (slice_index b (4 * i)) (slice_index b (4 * i + 1)) (slice_index b (4 * i + 2)) (slice_index b (4 * i + 3)) (h (4 * i)) (h (4 * i + 1)) (h (4 * i + 2)) (h (4 * i + 3))) e

pub back_more : (w b : List ℕ) (i v : ℕ) → i < length w → ((j : ℕ) → j < i → to_be_bytes w32 (slice_index w j) ≡ word_bytes b j)
    → to_be_bytes w32 v ≡ word_bytes b i → (j : ℕ) → j < i + 1 → to_be_bytes w32 (slice_index (set w i v) j) ≡ word_bytes b j
back_more w b i v size back here j lt = elim (cases_lt j i) [
  | inl below ↦
      let apart : j ≢ i = λ e. omega arith in
      ap (to_be_bytes w32) (get_or-set_other w i j v 0 apart) ∙ back j below
  | inr top ↦
      let e : j ≡ i = omega arith in
      rw e (ap (to_be_bytes w32) (get_or-set_same w i v 0 size) ∙ here)
]

pub after_more : (w b : List ℕ) (n : ℕ) → after_rounds w b (n + 1) ≡ add_round_key (mix_columns (shift_rows (sub_bytes (after_rounds w b n)))) (round_key w (n + 1))
unfolding after_rounds
after_more w b n =
    let e : n + 1 ≡ suc n = omega arith in
    ap (after_rounds w b) e
