-- GHASH, block after block.
use Rattle.std.proofs.Common.{◌≡◌, ℕ, suc, ◌+◌, ◌-◌, ◌*◌, ◌^◌, min, List, [], ◌∷◌, ◌++◌, length, take, drop, replicate, bit_xor, refl, sym, ap, subst, ◌∙◌, arith, add-one, inl, inr}
use Rattle.std.proofs.lemmas.Bool.{cases_lt}
use Rattle.std.proofs.lemmas.List.{append-nil, take_all, take-append-le, drop-replicate, take-replicate}
use Rattle.std.specs.Int.{w128, from_be_bytes, to_be_bytes}
use Rattle.aes_block.specs.Aes.{Aes}
use Rattle.gcm_mode.specs.Ghash.{times, padded_block, blocks, block_count, ghash}
use Rattle.gcm_mode.specs.HashKey.{hash_key}
use Rattle.gcm_mode.specs.Gcm.{counter, xor_bytes, gctr_blocks, first_counter, tagged_blocks, gcm_tag}

pub take_past : (r zs : List ℕ) (k : ℕ) → take (length r + k) (r ++ zs) ≡ r ++ take k zs
take_past [] zs k =
    let e : 0 + k ≡ k = omega arith in
    ap (λ (n : ℕ). take n zs) e
take_past (x ∷ r) zs k =
    let e : suc (length r) + k ≡ suc (length r + k) = omega arith in
    rw e (ap (λ (l : List ℕ). x ∷ l) (take_past r zs k))

pub padded_is : (r : List ℕ) (size : ℕ) → size ≡ min (length r) 16 → take size r ++ drop size (replicate 16 0) ≡ take 16 (r ++ replicate 16 0)
padded_is r size e = elim (cases_lt (length r) 16) [
  | inl short ↦
      let k : ℕ = 16 - length r in
      let s : size ≡ length r = omega arith in
      let whole : length r + k ≡ 16 = omega arith in
      let dropped : drop {A = ℕ} (length r) (replicate 16 0) ≡ replicate k 0 = drop-replicate (length r) 16 0 in
      let taken : take {A = ℕ} k (replicate 16 0) ≡ replicate k 0 = take-replicate k 16 0 (omega arith) in
      let right : take 16 (r ++ replicate 16 0) ≡ r ++ take k (replicate 16 0) = subst (λ (n : ℕ). take n (r ++ replicate 16 0) ≡ r ++ take k (replicate 16 0)) whole (take_past r (replicate 16 0) k) in
      ap (λ (n : ℕ). take n r ++ drop n (replicate 16 0)) s
      ∙ (λ i. take_all (length r) r (omega arith) i ++ dropped i)
      ∙ sym (right ∙ ap (λ (l : List ℕ). r ++ l) taken)
  | inr long ↦
      let s : size ≡ 16 = omega arith in
      ap (λ (n : ℕ). take n r ++ drop n (replicate 16 0)) s ∙ append-nil (take 16 r) ∙ sym (take-append-le 16 r (replicate 16 0) long)
]

pub ghash-append : (h y : ℕ) (xs bs : List ℕ) → ghash h y (xs ++ bs) ≡ ghash h (ghash h y xs) bs
unfolding ghash
ghash-append h y [] bs = refl
ghash-append h y (a ∷ xs) bs = ghash-append h (times (bit_xor y a) h) xs bs

pub ghash_one : (h y b : ℕ) → ghash h y (b ∷ []) ≡ times (bit_xor y b) h
unfolding ghash
ghash_one h y b = refl

pub none_absorbed : (h y : ℕ) (x : List ℕ) → y ≡ ghash h y (blocks x 0)
unfolding ghash blocks
none_absorbed h y x = refl

pub blocks_more : (x : List ℕ) (n : ℕ) → blocks x (n + 1) ≡ blocks x n ++ from_be_bytes w128 (padded_block x n) ∷ []
unfolding blocks
blocks_more x n = rw add-one refl

pub one_absorbed : (h s y b next n : ℕ) (x : List ℕ) → y ≡ ghash h s (blocks x n) → b ≡ from_be_bytes w128 (padded_block x n)
    → next ≡ times (bit_xor y b) h → next ≡ ghash h s (blocks x (n + 1))
one_absorbed h s y b next n x held eb en =
    let more : ghash h s (blocks x n ++ b ∷ []) ≡ times (bit_xor y b) h =
    ghash-append h s (blocks x n) (b ∷ []) ∙ ghash_one h (ghash h s (blocks x n)) b ∙ ap (λ (v : ℕ). times (bit_xor v b) h) (sym held) in
    en ∙ sym more ∙ ap (λ (v : ℕ). ghash h s (blocks x n ++ v ∷ [])) eb ∙ ap (ghash h s) (sym (blocks_more x n))

one_block : (k b : List ℕ) (v : ℕ) → gctr_blocks k b (to_be_bytes w128 v) 1 ≡ xor_bytes (to_be_bytes w128 v) (Aes k b)
unfolding gctr_blocks counter
one_block k b v = refl

pub tag_is : (k iv a c : List ℕ) (h ya yc v : ℕ) (s m r : List ℕ)
    → h ≡ hash_key k
    → ya ≡ ghash h 0 (blocks a (block_count a)) → yc ≡ ghash h ya (blocks c (block_count c))
    → v ≡ times (bit_xor yc (length a * 8 * 2 ^ 64 + length c * 8)) h
    → s ≡ to_be_bytes w128 v → m ≡ Aes k (first_counter iv) → r ≡ xor_bytes s m → r ≡ gcm_tag k iv a c
unfolding gcm_tag hash_key
tag_is k iv a c h ya yc v s m r eh ea ec ev es em er =
    let l : ℕ = length a * 8 * 2 ^ 64 + length c * 8 in
    let xs : List ℕ = blocks a (block_count a) in
    let cs : List ℕ = blocks c (block_count c) in
    let hash : ghash h 0 (tagged_blocks a c) ≡ v =
    ghash-append h 0 (xs ++ cs) (l ∷ [])
    ∙ ghash_one h (ghash h 0 (xs ++ cs)) l
    ∙ ap (λ (y : ℕ). times (bit_xor y l) h) (ghash-append h 0 xs cs ∙ ap (λ (y : ℕ). ghash h y cs) (sym ea) ∙ sym ec)
    ∙ sym ev in
    er ∙ (λ i. xor_bytes (es i) (em i)) ∙ sym (one_block k (first_counter iv) v)
    ∙ ap (λ (y : ℕ). gctr_blocks k (first_counter iv) (to_be_bytes w128 y) 1) (sym hash)
    ∙ ap (λ (g : ℕ). gctr_blocks k (first_counter iv) (to_be_bytes w128 (ghash g 0 (tagged_blocks a c))) 1) eh
