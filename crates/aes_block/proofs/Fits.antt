-- The results of the definition are bytes, where the key is.
use Rattle.std.proofs.Common.{◌≡◌, ℕ, zero, suc, ◌+◌, ◌-◌, ◌*◌, ◌/◌, ◌%◌, ◌^◌, ◌<◌, ◌==◌, Bool, true, false, cond, List, [], ◌∷◌, ◌++◌, length, take, drop, slice_index, bit_xor, refl, arith}
use Rattle.std.proofs.lemmas.Nat.{xor_lt}
use Rattle.std.proofs.Math.Nat.{pow-succ'}
use Rattle.aes_block.specs.Polynomial.{product, remainder}
use Rattle.aes_block.specs.Aes.{low_bits, number, times, sub_byte, state, at, sub_bytes, shift_rows, add_round_key, round_key, x_to, schedule_byte, next_byte, next_word, expanded, after_rounds, Aes}
use Rattle.aes_block.specs.Laws.{IsBytes, EnciphersToBlocks}
use Rattle.aes_block.proofs.Remainder.{length-remainder}

-- ---- lists of bytes

pub bytes_none : IsBytes []
bytes_none i = omega arith

pub bytes_cons : (x : ℕ) (xs : List ℕ) → x < 256 → IsBytes xs → IsBytes (x ∷ xs)
bytes_cons x xs lt h zero = lt
bytes_cons x xs lt h (suc i) = h i

-- the same as a record, so that the list is found from it
record AllBytes (xs : List ℕ) : Type 0 where
  items : IsBytes xs

all_none : AllBytes []
all_none = record { items = bytes_none }

all_cons : (x : ℕ) (xs : List ℕ) → x < 256 → AllBytes xs → AllBytes (x ∷ xs)
all_cons x xs lt h = record { items = bytes_cons x xs lt h.items }

pub bytes_rest : (x : ℕ) (xs : List ℕ) → IsBytes (x ∷ xs) → IsBytes xs
bytes_rest x xs h i = h (suc i)

pub bytes_append : (xs ys : List ℕ) → IsBytes xs → IsBytes ys → IsBytes (xs ++ ys)
bytes_append [] ys h k = k
bytes_append (x ∷ xs) ys h k = bytes_cons x (xs ++ ys) (h 0) (bytes_append xs ys (bytes_rest x xs h) k)

pub bytes_take : (n : ℕ) (xs : List ℕ) → IsBytes xs → IsBytes (take n xs)
bytes_take zero xs h = bytes_none
bytes_take (suc n) [] h = bytes_none
bytes_take (suc n) (x ∷ xs) h = bytes_cons x (take n xs) (h 0) (bytes_take n xs (bytes_rest x xs h))

pub bytes_drop : (n : ℕ) (xs : List ℕ) → IsBytes xs → IsBytes (drop n xs)
bytes_drop zero xs h = h
bytes_drop (suc n) [] h = bytes_none
bytes_drop (suc n) (x ∷ xs) h = bytes_drop n xs (bytes_rest x xs h)

-- ---- the parts of the cipher

number-lt : (p : List Bool) → number p < 2 ^ length p
number-lt [] = omega arith
number-lt (c ∷ p) =
    let next : 2 ^ suc (length p) ≡ 2 * 2 ^ length p = pow-succ' 2 (length p) in
    elim c as (λ b. cond b 1 0 + 2 * number p < 2 ^ suc (length p)) [ true ↦ omega (arith, number-lt p, next) | false ↦ omega (arith, number-lt p, next) ]

pub times-lt : (a b : ℕ) → times a b < 256
unfolding times
times-lt a b =
    let p : List Bool = remainder (low_bits 8 0x1b) (product (low_bits 8 a) (low_bits 8 b)) in
    let len : length p ≡ 8 = length-remainder (low_bits 8 0x1b) (product (low_bits 8 a) (low_bits 8 b)) in
    rw len at (number-lt p)

x_to-lt : (n : ℕ) → x_to n < 256
x_to-lt zero = omega arith
x_to-lt (suc n) = times-lt 2 (x_to n)

pub sub_byte-lt : (a : ℕ) → sub_byte a < 256
unfolding sub_byte
sub_byte-lt a = omega arith

schedule_byte-lt : (w : List ℕ) (i j : ℕ) → IsBytes w → schedule_byte w i j < 256
schedule_byte-lt w i j h = elim (i % 4 == 0) as (λ b. cond b (bit_xor (sub_byte (slice_index w (4 * (i - 1) + (j + 1) % 4))) (cond (j == 0) (x_to (i / 4 - 1)) 0)) (slice_index w (4 * (i - 1) + j)) < 256) [
  | true ↦ xor_lt 8 (sub_byte (slice_index w (4 * (i - 1) + (j + 1) % 4))) (cond (j == 0) (x_to (i / 4 - 1)) 0) (sub_byte-lt (slice_index w (4 * (i - 1) + (j + 1) % 4)))
      (elim (j == 0) as (λ b. cond b (x_to (i / 4 - 1)) 0 < 256) [ true ↦ x_to-lt (i / 4 - 1) | false ↦ omega arith ])
  | false ↦ h (4 * (i - 1) + j)
]

next_byte-lt : (w : List ℕ) (i j : ℕ) → IsBytes w → next_byte w i j < 256
next_byte-lt w i j h = xor_lt 8 (slice_index w (4 * (i - 4) + j)) (schedule_byte w i j) (h (4 * (i - 4) + j)) (schedule_byte-lt w i j h)

bytes_next_word : (w : List ℕ) (i : ℕ) → IsBytes w → IsBytes (next_word w i)
bytes_next_word w i h =
    let byte : (j : ℕ) → next_byte w i j < 256 = λ j. next_byte-lt w i j h in
    let all : AllBytes (next_word w i) = all_cons _ _ (byte 0) (all_cons _ _ (byte 1) (all_cons _ _ (byte 2) (all_cons _ _ (byte 3) all_none))) in
    all.items

bytes_expanded : (k : List ℕ) (n : ℕ) → IsBytes k → IsBytes (expanded k n)
unfolding expanded
bytes_expanded k zero h = h
bytes_expanded k (suc n) h =
    bytes_append (expanded k n) (next_word (expanded k n) (n + 4)) (bytes_expanded k n h) (bytes_next_word (expanded k n) (n + 4) (bytes_expanded k n h))

bytes_state : (f : ℕ → ℕ → ℕ) → ((r c : ℕ) → f r c < 256) → IsBytes (state f)
bytes_state f h =
    let all : AllBytes (state f) =
    (all_cons _ _ (h 0 0) (all_cons _ _ (h 1 0) (all_cons _ _ (h 2 0) (all_cons _ _ (h 3 0)
    (all_cons _ _ (h 0 1) (all_cons _ _ (h 1 1) (all_cons _ _ (h 2 1) (all_cons _ _ (h 3 1)
    (all_cons _ _ (h 0 2) (all_cons _ _ (h 1 2) (all_cons _ _ (h 2 2) (all_cons _ _ (h 3 2)
    (all_cons _ _ (h 0 3) (all_cons _ _ (h 1 3) (all_cons _ _ (h 2 3) (all_cons _ _ (h 3 3)
    all_none)))))))))))))))) in
    all.items

bytes_sub_bytes : (s : List ℕ) → IsBytes (sub_bytes s)
bytes_sub_bytes s = bytes_state (λ r c. sub_byte (at s r c)) (λ r c. sub_byte-lt (at s r c))

bytes_shift_rows : (s : List ℕ) → IsBytes s → IsBytes (shift_rows s)
bytes_shift_rows s h = bytes_state (λ r c. at s r ((c + r) % 4)) (λ r c. h (r + 4 * ((c + r) % 4)))

bytes_add_round_key : (s k : List ℕ) → IsBytes s → IsBytes k → IsBytes (add_round_key s k)
bytes_add_round_key s k h g =
    bytes_state (λ r c. bit_xor (at s r c) (at k r c)) (λ r c. xor_lt 8 (at s r c) (at k r c) (h (r + 4 * c)) (g (r + 4 * c)))

pub length-Aes : (k b : List ℕ) → length (Aes k b) ≡ 16
unfolding Aes
length-Aes k b = refl

pub bytes_Aes : (k b : List ℕ) → IsBytes k → IsBytes (Aes k b)
unfolding Aes
bytes_Aes k b h =
    let w : List ℕ = expanded k 40 in
    let s : List ℕ = after_rounds w b 9 in
    bytes_add_round_key (shift_rows (sub_bytes s)) (round_key w 10) (bytes_shift_rows (sub_bytes s) (bytes_sub_bytes s))
    (bytes_take 16 (drop 160 w) (bytes_drop 160 w (bytes_expanded k 40 h)))

pub enciphers_to_blocks : EnciphersToBlocks
enciphers_to_blocks = (length-Aes, bytes_Aes)
