-- The product of two blocks, bit after bit of the first one.
use Rattle.std.proofs.Common.{◌≡◌, ℕ, zero, suc, ◌+◌, ◌*◌, ◌/◌, ◌%◌, ◌-◌, ◌^◌, ◌<◌, ◌≤◌, ◌==◌, Bool, true, false, cond, List, [], ◌∷◌, ◌++◌, length, take, replicate, get_or, bit_and, bit_xor, refl, sym, ap, ◌∙◌, arith, add-one, inl, inr, eq-eqb}
use Rattle.std.proofs.lemmas.List.{get_or_push, take_at}
use Rattle.std.proofs.lemmas.Nat.{mod-pow-add, and_mask}
use Rattle.std.proofs.lemmas.Nat.Bits.{bit_at_lowest, bit_at-suc, bit_at_xor, bit_at-lt, bit_at_above, shr_and_one, bit_at_cat_low, bit_at_cat_high}
use Rattle.std.proofs.lemmas.Bool.{cases_eq, ne_eqb}
use Rattle.std.specs.Int.{bit_at}
use Rattle.std.specs.Int.Bits.{and_zero_r, xor_zero_r}
use Rattle.aes_block.specs.Polynomial.{plus, add, product, less_modulus, remainder}
use Rattle.gcm_mode.specs.declared.field.TheConstants.{REDUCTION}
use Rattle.gcm_mode.specs.Ghash.{bits, number, modulus}
use Rattle.gcm_mode.specs.HashTable.{low_times}
use Rattle.aes_block.proofs.Remainder.{add_comm, add-zeros, remainder-product}

pub length-bits : (k n : ℕ) → length (bits k n) ≡ k
unfolding bits
length-bits zero n = refl
length-bits (suc k) n = ap suc (length-bits k n)

one_of_sum : (u v : ℕ) → u < 2 → v < 2 → ((u + v) % 2 == 1) ≡ plus (u == 1) (v == 1)
one_of_sum zero zero h k = refl
one_of_sum zero (suc zero) h k = refl
one_of_sum (suc zero) zero h k = refl
one_of_sum (suc zero) (suc zero) h k = refl
one_of_sum (suc (suc u)) v h k = absurd (omega arith)
one_of_sum u (suc (suc v)) h k = absurd (omega arith)

-- the bits of an exclusive or
pub bits-xor : (k a b : ℕ) → bits k (bit_xor a b) ≡ add (bits k a) (bits k b)
unfolding bits
bits-xor zero a b = refl
bits-xor (suc k) a b =
    rw (bit_at_xor a b k, bits-xor k a b, one_of_sum (bit_at a k) (bit_at b k) (bit_at-lt a k) (bit_at-lt b k)) refl

-- the lowest bit is the last
bits-last : (k z : ℕ) → bits (suc k) z ≡ bits k (z / 2) ++ (z % 2 == 1) ∷ []
unfolding bits
bits-last zero z = rw (bit_at_lowest z) refl
bits-last (suc k) z = ap (λ (p : List Bool). (bit_at z (suc k) == 1) ∷ p) (bits-last k z) ∙ rw (bit_at-suc z k) refl

bits-half : (k z : ℕ) → z < 2 ^ suc k → bits (suc k) (z / 2) ≡ false ∷ bits k (z / 2)
unfolding bits
bits-half k z h =
    let none : bit_at (z / 2) k ≡ 0 = sym (bit_at-suc z k) ∙ bit_at_above z (suc k) (suc k) h (omega arith) in
    rw none refl

-- one coefficient on
moved_list : (m p q : List Bool) (b : Bool) (k : ℕ) → length m ≡ suc k → length q ≡ k → p ≡ q ++ b ∷ []
    → less_modulus m (false ∷ p) ≡ cond b (add (false ∷ q) m) (false ∷ q)
moved_list m p q b k len lq e =
    let top : get_or (q ++ b ∷ []) k false ≡ b = get_or_push q b false k lq in
    let low : take k (q ++ b ∷ []) ≡ q = take_at q (b ∷ []) k lq in
    rw (e, len) (ap (λ (t : Bool). cond t (add (false ∷ take k (q ++ b ∷ [])) m) (false ∷ take k (q ++ b ∷ []))) top
    ∙ ap (λ (l : List Bool). cond b (add (false ∷ l) m) (false ∷ l)) low)

moved : (m : List Bool) (k z : ℕ) → length m ≡ suc k → z < 2 ^ suc k
    → less_modulus m (false ∷ bits (suc k) z) ≡ cond (z % 2 == 1) (add (bits (suc k) (z / 2)) m) (bits (suc k) (z / 2))
moved m k z len h =
    rw (bits-half k z h) (moved_list m (bits (suc k) z) (bits k (z / 2)) (z % 2 == 1) k len (length-bits k (z / 2)) (bits-last k z))

reduction : bits 128 REDUCTION ≡ modulus
unfolding bits modulus
reduction = refl

pub length-modulus : length modulus ≡ 128
unfolding modulus
length-modulus = refl

moved_odd : (z : ℕ) → z < 2 ^ 128 → z % 2 ≡ 1 → bits 128 (bit_xor (z / 2) REDUCTION) ≡ less_modulus modulus (false ∷ bits 128 z)
moved_odd z h odd =
    rw (moved modulus 127 z length-modulus h, odd, bits-xor 128 (z / 2) REDUCTION, reduction) refl

pub moved_even : (z : ℕ) → z < 2 ^ 128 → z % 2 ≡ 0 → bits 128 (z / 2) ≡ less_modulus modulus (false ∷ bits 128 z)
moved_even z h even = rw (moved modulus 127 z length-modulus h, even) refl

-- the value or nothing, by a mask of ones or of zeros
pub masked : (bit value mask : ℕ) → bit < 2 → value < 2 ^ 128 → mask < 2 ^ 128 → (mask + bit) % 2 ^ 128 ≡ 0
    → bit_and value mask ≡ cond (bit == 1) value 0
masked zero value mask h fits fits' e =
    let none : mask ≡ 0 = omega arith in
    rw none (and_zero_r value)
masked (suc zero) value mask h fits fits' e =
    let ones : mask ≡ 2 ^ 128 - 1 = omega arith in
    let own : value % 2 ^ 128 ≡ value = omega arith in
    rw ones (and_mask value 128 ∙ own)
masked (suc (suc n)) value mask h fits fits' e = absurd (omega arith)

-- one coefficient on, the reduction by a mask
pub moved_by : (z half part : ℕ) → z < 2 ^ 128 → half ≡ z / 2 → part ≡ cond (bit_and z 1 == 1) REDUCTION 0
    → bits 128 (bit_xor half part) ≡ less_modulus modulus (false ∷ bits 128 z)
moved_by z half part h eh ep = rw eh (elim (cases_eq (bit_and z 1) 1) [
  | inl one ↦
      let test : (bit_and z 1 == 1) ≡ true = eq-eqb (bit_and z 1) 1 one in
      let whole : part ≡ REDUCTION = rw test at ep in
      rw whole (moved_odd z h (sym (and_mask z 1) ∙ one))
  | inr none ↦
      let test : (bit_and z 1 == 1) ≡ false = ne_eqb (bit_and z 1) 1 none in
      let nothing : part ≡ 0 = rw test at ep in
      let even : z % 2 ≡ 0 = omega (arith, and_mask z 1, none) in
      rw nothing (ap (bits 128) (xor_zero_r (z / 2)) ∙ moved_even z h even)
])

-- one more bit of x, where it is 1 and where it is 0
bits_next : (i x : ℕ) → bits (i + 1) x ≡ (bit_at x i == 1) ∷ bits i x
unfolding bits
bits_next i x = rw add-one refl

more : (x y z next i : ℕ) (c : Bool) → (bit_at x i == 1) ≡ c → bits 128 z ≡ remainder modulus (product (bits i x) (bits 128 y))
    → bits 128 next ≡ less_modulus modulus (false ∷ bits 128 z)
    → remainder modulus (product (bits (i + 1) x) (bits 128 y)) ≡ add (cond c (bits 128 y) (replicate (length modulus) false)) (bits 128 next)
more x y z next i c e held step =
    rw (bits_next i x, e, step, held) (remainder-product modulus c (bits i x) (bits 128 y) (length-bits 128 y ∙ sym length-modulus))

more_one : (x y z next i : ℕ) → bit_and (x / 2 ^ i) 1 ≡ 1 → bits 128 z ≡ remainder modulus (product (bits i x) (bits 128 y))
    → bits 128 next ≡ less_modulus modulus (false ∷ bits 128 z)
    → bits 128 (bit_xor next y) ≡ remainder modulus (product (bits (i + 1) x) (bits 128 y))
more_one x y z next i one held step =
    let e : (bit_at x i == 1) ≡ true = eq-eqb (bit_at x i) 1 (sym (shr_and_one x i) ∙ one) in
    bits-xor 128 next y ∙ add_comm (bits 128 next) (bits 128 y) ∙ sym (more x y z next i true e held step)

more_none : (x y z next i : ℕ) → (bit_and (x / 2 ^ i) 1 ≡ 1 → ⊥) → bits 128 z ≡ remainder modulus (product (bits i x) (bits 128 y))
    → bits 128 next ≡ less_modulus modulus (false ∷ bits 128 z)
    → bits 128 next ≡ remainder modulus (product (bits (i + 1) x) (bits 128 y))
more_none x y z next i none held step =
    let e : (bit_at x i == 1) ≡ false = ne_eqb (bit_at x i) 1 (λ one. none (shr_and_one x i ∙ one)) in
    sym (more x y z next i false e held step ∙ add-zeros (bits 128 next) (length modulus) (length-bits 128 next ∙ sym length-modulus))

-- the same, the second block by a mask
pub more_by : (x y z next i part : ℕ) → part ≡ cond (bit_and (x / 2 ^ i) 1 == 1) y 0
    → bits 128 z ≡ remainder modulus (product (bits i x) (bits 128 y))
    → bits 128 next ≡ less_modulus modulus (false ∷ bits 128 z)
    → bits 128 (bit_xor next part) ≡ remainder modulus (product (bits (i + 1) x) (bits 128 y))
more_by x y z next i part ep held step = elim (cases_eq (bit_and (x / 2 ^ i) 1) 1) [
  | inl one ↦
      let test : (bit_and (x / 2 ^ i) 1 == 1) ≡ true = eq-eqb (bit_and (x / 2 ^ i) 1) 1 one in
      let whole : part ≡ y = rw test at ep in
      rw whole (more_one x y z next i one held step)
  | inr none ↦
      let test : (bit_and (x / 2 ^ i) 1 == 1) ≡ false = ne_eqb (bit_and (x / 2 ^ i) 1) 1 none in
      let nothing : part ≡ 0 = rw test at ep in
      rw nothing (ap (bits 128) (xor_zero_r next) ∙ more_none x y z next i none held step)
]

pub none_yet : (x y : ℕ) → bits 128 0 ≡ remainder modulus (product (bits 0 x) (bits 128 y))
unfolding bits modulus remainder
none_yet x y = refl

one_worth : (b : ℕ) → b < 2 → (b ≡ cond (b == 1) 1 0)
one_worth zero h = refl
one_worth (suc zero) h = refl
one_worth (suc (suc b)) h = absurd (omega arith)

number-bits : (k n : ℕ) → number (bits k n) ≡ n % 2 ^ k
unfolding bits number
number-bits zero n = omega arith
number-bits (suc k) n =
    let split : n % 2 ^ (1 + k) ≡ (n / 2 ^ k % 2 ^ 1) * 2 ^ k + n % 2 ^ k = mod-pow-add n 1 k in
    let same : 1 + k ≡ suc k = omega arith in
    rw (length-bits k n, number-bits k n, ← one_worth (bit_at n k) (bit_at-lt n k)) (sym (rw same at split))

none_of : (n : ℕ) → bits 0 n ≡ []
unfolding bits
none_of n = refl

-- all of the lowest k bits of x
pub low_whole : (k x y z : ℕ) → z < 2 ^ 128 → bits 128 z ≡ remainder modulus (product (bits k x) (bits 128 y)) → z ≡ low_times k x y
unfolding low_times
low_whole k x y z h held =
    let own : z % 2 ^ 128 ≡ z = omega arith in
    sym (rw own at (number-bits 128 z)) ∙ ap number held

-- ---- several coefficients at once

below_with : (k n : ℕ) → n < 2 ^ k → 1 * 2 ^ k + n < 2 ^ suc k
below_with k n h = omega arith

below_without : (k n : ℕ) → n < 2 ^ k → 0 * 2 ^ k + n < 2 ^ suc k
below_without k n h = omega arith

pub number-lt : (p : List Bool) → number p < 2 ^ length p
unfolding number
number-lt [] = omega arith
number-lt (true ∷ p) = below_with (length p) (number p) (number-lt p)
number-lt (false ∷ p) = below_without (length p) (number p) (number-lt p)

pub bits-above : (k j a r : ℕ) → j ≤ k → bits j (a * 2 ^ k + r) ≡ bits j r
unfolding bits
bits-above k zero a r h = refl
bits-above k (suc j) a r h =
    rw (bit_at_cat_low a k r j (omega arith), bits-above k j a r (omega arith)) refl

first_bit : (k a r : ℕ) → r < 2 ^ k → bits (suc k) (a * 2 ^ k + r) ≡ (bit_at a 0 == 1) ∷ bits k r
unfolding bits
first_bit k a r h =
    let d : k - k ≡ 0 = omega arith in
    let there : bit_at (a * 2 ^ k + r) k ≡ bit_at a 0 = bit_at_cat_high a k r k h (omega arith) ∙ ap (bit_at a) d in
    rw (there, bits-above k k a r (omega arith)) refl

pub bits-number : (p : List Bool) → bits (length p) (number p) ≡ p
unfolding number
bits-number [] = none_of 0
bits-number (true ∷ p) = first_bit (length p) 1 (number p) (number-lt p) ∙ ap (λ (q : List Bool). true ∷ q) (bits-number p)
bits-number (false ∷ p) = first_bit (length p) 0 (number p) (number-lt p) ∙ ap (λ (q : List Bool). false ∷ q) (bits-number p)
