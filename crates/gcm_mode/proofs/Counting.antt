-- GCTR, block after block.
use Rattle.std.proofs.Common.{◌≡◌, ℕ, zero, suc, ◌+◌, ◌-◌, ◌*◌, ◌%◌, ◌^◌, ◌<◌, ◌≤◌, min, List, [], ◌∷◌, ◌++◌, map, length, replicate, take, drop, get_or, bit_xor, refl, sym, ap, ◌∙◌, arith, add-one, inl, inr}
use Rattle.std.proofs.lemmas.Bool.{cases_lt}
use Rattle.std.proofs.lemmas.List.{append-nil, append_assoc, take_all, take_at, take-append-le, drop_at, drop_all, drop-drop, length-take, length-drop, length-append}
use Rattle.std.proofs.lemmas.List.FromFn.{fill_by_all}
use Rattle.std.proofs.lemmas.Nat.{from_be_bytes-to_be_bytes_4}
use Rattle.std.specs.List.{range_with_len}
use Rattle.std.specs.Int.{w32, w128, from_be_bytes, to_be_bytes}
use borrow.Rule.Slice.PartMut.{put_mid}
use Rattle.aes_block.specs.Aes.{Aes}
use Rattle.aes_block.proofs.Fits.{length-Aes}
use Rattle.gcm_mode.specs.Gcm.{inc32, counter, xor_bytes, gctr_blocks, first_counter, tagged_blocks, text_under, gcm_tag}
use Rattle.gcm_mode.specs.Ghash.{block_count, padded_block, ghash}

pub length-xor : (x y : List ℕ) → length x ≤ length y → length (xor_bytes x y) ≡ length x
length-xor [] y h = refl
length-xor (a ∷ x) [] h = absurd (omega arith)
length-xor (a ∷ x) (b ∷ y) h = ap suc (length-xor x y (omega arith))

get_or-xor : (x y : List ℕ) (i : ℕ) → i < length x → length x ≤ length y → get_or (xor_bytes x y) i 0 ≡ bit_xor (get_or x i 0) (get_or y i 0)
get_or-xor [] y i lt h = absurd (omega arith)
get_or-xor (a ∷ x) [] i lt h = absurd (omega arith)
get_or-xor (a ∷ x) (b ∷ y) zero lt h = refl
get_or-xor (a ∷ x) (b ∷ y) (suc i) lt h = get_or-xor x y i (omega arith) (omega arith)

-- two blocks, written out
pub xor_16 : (x y : List ℕ) → length x ≡ 16 → length y ≡ 16 → map (λ k. bit_xor (get_or x k 0) (get_or y k 0)) (range_with_len 0 16) ≡ xor_bytes x y
xor_16 x y h k =
    let fits : length x ≤ length y = omega arith in
    sym (fill_by_all (λ k. bit_xor (get_or x k 0) (get_or y k 0)) (xor_bytes x y) 16 0 (length-xor x y fits ∙ h) (λ i lt. get_or-xor x y i (omega arith) fits))

take-xor : (n : ℕ) (x y : List ℕ) → take n (xor_bytes x y) ≡ xor_bytes (take n x) y
take-xor zero x y = refl
take-xor (suc n) [] y = refl
take-xor (suc n) (a ∷ x) [] = refl
take-xor (suc n) (a ∷ x) (b ∷ y) = ap (λ (l : List ℕ). bit_xor a b ∷ l) (take-xor n x y)

-- a part of four bytes behind the IV
pub placed : (iv ys : List ℕ) → length iv ≡ 12 → put_mid 12 4 (iv ++ 0 ∷ 0 ∷ 0 ∷ 0 ∷ []) ys ≡ iv ++ ys
placed iv ys h =
    let front : take 12 (iv ++ 0 ∷ 0 ∷ 0 ∷ 0 ∷ []) ≡ iv = take_at iv (0 ∷ 0 ∷ 0 ∷ 0 ∷ []) 12 h in
    let back : drop 12 (iv ++ 0 ∷ 0 ∷ 0 ∷ 0 ∷ []) ≡ 0 ∷ 0 ∷ 0 ∷ 0 ∷ [] = drop_at iv (0 ∷ 0 ∷ 0 ∷ 0 ∷ []) 12 h in
    (λ i. front i ++ (ys ++ drop 4 (back i))) ∙ ap (λ (l : List ℕ). iv ++ l) (append-nil ys)

inc32_at : (iv bs : List ℕ) → length iv ≡ 12 → inc32 (iv ++ bs) ≡ iv ++ to_be_bytes w32 ((from_be_bytes w32 bs + 1) % 2 ^ 32)
inc32_at iv bs h =
    let front : take 12 (iv ++ bs) ≡ iv = take_at iv bs 12 h in
    let back : drop 12 (iv ++ bs) ≡ bs = drop_at iv bs 12 h in
    (λ i. front i ++ to_be_bytes w32 ((from_be_bytes w32 (back i) + 1) % 2 ^ 32))

pub counter_is : (iv : List ℕ) (n : ℕ) → length iv ≡ 12 → n + 2 < 2 ^ 32 → counter (inc32 (first_counter iv)) n ≡ iv ++ to_be_bytes w32 (n + 2)
unfolding counter
counter_is iv zero h fits = inc32_at iv (0 ∷ 0 ∷ 0 ∷ 1 ∷ []) h
counter_is iv (suc n) h fits =
    let own : from_be_bytes w32 (to_be_bytes w32 (n + 2)) ≡ n + 2 = from_be_bytes-to_be_bytes_4 (n + 2) (omega arith) in
    let same : (n + 2 + 1) % 2 ^ 32 ≡ suc n + 2 = omega arith in
    ap inc32 (counter_is iv n h (omega arith)) ∙ inc32_at iv (to_be_bytes w32 (n + 2)) h
    ∙ ap (λ (v : ℕ). iv ++ to_be_bytes w32 ((v + 1) % 2 ^ 32)) own
    ∙ ap (λ (v : ℕ). iv ++ to_be_bytes w32 v) same

take_min : (r : List ℕ) (size : ℕ) → size ≡ min (length r) 16 → take size r ≡ take 16 r
take_min r size e = elim (cases_lt (length r) 16) [
  | inl short ↦ take_all size r (omega arith) ∙ sym (take_all 16 r (omega arith))
  | inr long ↦
      let s : size ≡ 16 = omega arith in
      ap (λ (n : ℕ). take n r) s
]

pub none_covered : (k b x : List ℕ) → x ≡ gctr_blocks k b x 0 ++ drop (16 * 0) x
unfolding gctr_blocks
none_covered k b x = refl

gctr_more : (k b x : List ℕ) (n : ℕ) → gctr_blocks k b x (n + 1) ≡ gctr_blocks k b x n ++ xor_bytes (take 16 (drop (16 * n) x)) (Aes k (counter b n))
unfolding gctr_blocks
gctr_more k b x n = rw add-one refl

take-take : (m n : ℕ) (x : List ℕ) → m ≤ n → take m (take n x) ≡ take m x
take-take zero n x h = refl
take-take (suc m) zero x h = absurd (omega arith)
take-take (suc m) (suc n) [] h = refl
take-take (suc m) (suc n) (a ∷ x) h = ap (λ (l : List ℕ). a ∷ l) (take-take m n x (omega arith))

-- the front of a padded block, as long as what is left of the text
front_of_padded : (r : List ℕ) (size : ℕ) → size ≡ min (length r) 16 → take size (take 16 (r ++ replicate 16 0)) ≡ take 16 r
front_of_padded r size e =
    let within : size ≤ 16 = omega arith in
    let there : size ≤ length r = omega arith in
    take-take size 16 (r ++ replicate 16 0) within ∙ take-append-le size r (replicate 16 0) there ∙ take_min r size e

-- ---- lengths

pub length-gctr_blocks : (k b x : List ℕ) (n : ℕ) → length (gctr_blocks k b x n) ≡ min (16 * n) (length x)
unfolding gctr_blocks
length-gctr_blocks k b x zero = omega arith
length-gctr_blocks k b x (suc n) =
    let part : List ℕ = take 16 (drop (16 * n) x) in
    let size : length part ≡ min 16 (length x - 16 * n) = length-take 16 (drop (16 * n) x) ∙ ap (min 16) (length-drop (16 * n) x) in
    let mask : length (Aes k (counter b n)) ≡ 16 = length-Aes k (counter b n) in
    let both : length (xor_bytes part (Aes k (counter b n))) ≡ length part = length-xor part (Aes k (counter b n)) (omega arith) in
    omega (arith, length-append (gctr_blocks k b x n) (xor_bytes part (Aes k (counter b n))), length-gctr_blocks k b x n, both, size)

pub length-text_under : (k iv x : List ℕ) → length (text_under k iv x) ≡ length x
unfolding text_under
length-text_under k iv x =
    let all : length (gctr_blocks k (inc32 (first_counter iv)) x (block_count x)) ≡ min (16 * block_count x) (length x) = length-gctr_blocks k (inc32 (first_counter iv)) x (block_count x) in
    all ∙ omega arith

pub length-gcm_tag : (k iv a c : List ℕ) → length (gcm_tag k iv a c) ≡ 16
unfolding gcm_tag
length-gcm_tag k iv a c =
    let s : List ℕ = to_be_bytes w128 (ghash (from_be_bytes w128 (Aes k (replicate 16 0))) 0 (tagged_blocks a c)) in
    length-gctr_blocks k (first_counter iv) s (block_count s)

-- ---- a text in place

past_block : (r : List ℕ) (size : ℕ) → size ≡ min (length r) 16 → drop size r ≡ drop 16 r
past_block r size e = elim (cases_lt (length r) 16) [
  | inl short ↦ drop_all size r (omega arith) ∙ sym (drop_all 16 r (omega arith))
  | inr long ↦
      let s : size ≡ 16 = omega arith in
      ap (λ (n : ℕ). drop n r) s
]

-- the text in place, its first n blocks under the key stream
pub block_covered : (now k iv x padded cb m sealed part : List ℕ) (n at size width : ℕ) → length iv ≡ 12 → n + 2 < 2 ^ 32
    → now ≡ gctr_blocks k (inc32 (first_counter iv)) x n ++ drop (16 * n) x
    → padded ≡ padded_block now n → size ≡ min (length now - 16 * n) 16 → 16 * n ≤ length now
    → cb ≡ iv ++ to_be_bytes w32 (n + 2) → m ≡ Aes k cb → sealed ≡ xor_bytes padded m → part ≡ take size sealed
    → at ≡ 16 * n → width ≡ size
    → put_mid at width now part ≡ gctr_blocks k (inc32 (first_counter iv)) x (n + 1) ++ drop (16 * (n + 1)) x
block_covered now k iv x padded cb m sealed part n at size width h fits held ep es within ec em ex epart eat ew =
    let b : List ℕ = inc32 (first_counter iv) in
    let g : List ℕ = gctr_blocks k b x n in
    let rest : List ℕ = drop (16 * n) x in
    let all : length now ≡ length g + length rest = ap length held ∙ length-append g rest in
    let len : length g ≡ 16 * n = omega (arith, all, length-gctr_blocks k b x n, length-drop (16 * n) x) in
    let front : take (16 * n) now ≡ g = ap (take (16 * n)) held ∙ take_at g rest (16 * n) len in
    let back : drop (16 * n) now ≡ rest = ap (drop (16 * n)) held ∙ drop_at g rest (16 * n) len in
    let size_is : size ≡ min (length rest) 16 = es ∙ ap (λ (l : ℕ). min l 16) (omega arith) in
    let mask : m ≡ Aes k (counter b n) = em ∙ ap (Aes k) (ec ∙ sym (counter_is iv n h fits)) in
    let kept : padded ≡ padded_block x n = ep ∙ ap (λ (l : List ℕ). take 16 (l ++ replicate 16 0)) back in
    let taken : take size padded ≡ take 16 rest = ap (take size) kept ∙ front_of_padded rest size size_is in
    let own : part ≡ xor_bytes (take 16 rest) (Aes k (counter b n)) =
    epart ∙ ap (take size) ex ∙ take-xor size padded m ∙ (λ i. xor_bytes (taken i) (mask i)) in
    let left : drop size rest ≡ drop (16 * (n + 1)) x =
    past_block rest size size_is ∙ drop-drop 16 (16 * n) x ∙ ap (λ (j : ℕ). drop j x) (omega arith) in
    (λ i. put_mid (eat i) (ew i) now (own i))
    ∙ (λ i. front i ++ (xor_bytes (take 16 rest) (Aes k (counter b n)) ++ drop size (back i)))
    ∙ ap (λ (l : List ℕ). g ++ (xor_bytes (take 16 rest) (Aes k (counter b n)) ++ l)) left
    ∙ sym (append_assoc g (xor_bytes (take 16 rest) (Aes k (counter b n))) (drop (16 * (n + 1)) x))
    ∙ ap (λ (l : List ℕ). l ++ drop (16 * (n + 1)) x) (sym (gctr_more k b x n))

pub all_covered : (now k iv x : List ℕ) (n : ℕ) → n ≡ block_count x
    → now ≡ gctr_blocks k (inc32 (first_counter iv)) x n ++ drop (16 * n) x → now ≡ text_under k iv x
unfolding text_under
all_covered now k iv x n done held =
    let b : List ℕ = inc32 (first_counter iv) in
    held ∙ ap (λ (l : List ℕ). gctr_blocks k b x n ++ l) (drop_all (16 * n) x (omega arith)) ∙ append-nil (gctr_blocks k b x n)
    ∙ ap (gctr_blocks k b x) done

-- what stood before a text that was covered
pub covered_behind : (was pushed items text k j iv : List ℕ) (start : ℕ) → pushed ≡ was ++ text → start ≡ length was → j ≡ k
    → items ≡ take start pushed ++ text_under j iv (drop start pushed) → items ≡ was ++ text_under k iv text
covered_behind was pushed items text k j iv start ep es ej e =
    let front : take start pushed ≡ was = ap (take start) ep ∙ take_at was text start (sym es) in
    let back : drop start pushed ≡ text = ap (drop start) ep ∙ drop_at was text start (sym es) in
    e ∙ (λ i. front i ++ text_under (ej i) iv (back i))
