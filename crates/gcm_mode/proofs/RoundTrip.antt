-- What is sealed is opened: GCTR twice is nothing.
use Rattle.std.proofs.Common.{◌≡◌, ℕ, zero, suc, ◌+◌, ◌*◌, ◌/◌, ◌≤◌, List, [], ◌∷◌, ◌++◌, length, take, drop, bit_xor, refl, sym, ap, ◌∙◌, arith}
use Rattle.std.proofs.lemmas.List.{length-append, take_at, drop_at}
use lib.Bits.{xor_assoc, xor_self, xor_zero_r}
use Rattle.aes_block.specs.Aes.{Aes}
use Rattle.gcm_mode.specs.Ghash.{block_count}
use Rattle.gcm_mode.specs.Gcm.{inc32, counter, xor_bytes, gctr_blocks, first_counter, text_under, gcm_tag}
use Rattle.gcm_mode.specs.Laws.{OpensExactlyWhatWasSealed}
use Rattle.aes_block.proofs.Fits.{length-Aes}
use Rattle.gcm_mode.proofs.Counting.{length-text_under, length-gcm_tag}

xor_back : (x m : ℕ) → bit_xor (bit_xor x m) m ≡ x
xor_back x m = xor_assoc x m m ∙ ap (bit_xor x) (xor_self m) ∙ xor_zero_r x

xor_twice : (x s : List ℕ) → length x ≤ length s → xor_bytes (xor_bytes x s) s ≡ x
xor_twice [] s h = refl
xor_twice (a ∷ x) [] h = absurd (omega arith)
xor_twice (a ∷ x) (b ∷ s) h = (λ i. xor_back a b i ∷ xor_twice x s (omega arith) i)

xor-nil : (x : List ℕ) → xor_bytes x [] ≡ []
xor-nil [] = refl
xor-nil (a ∷ x) = refl

xor-append : (x s b : List ℕ) → xor_bytes x (s ++ b) ≡ xor_bytes x s ++ xor_bytes (drop (length s) x) b
xor-append x [] b = ap (λ (l : List ℕ). l ++ xor_bytes x b) (sym (xor-nil x))
xor-append [] (c ∷ s) b = refl
xor-append (a ∷ x) (c ∷ s) b = ap (λ (l : List ℕ). bit_xor a c ∷ l) (xor-append x s b)

xor-take : (x b : List ℕ) → xor_bytes (take (length b) x) b ≡ xor_bytes x b
xor-take x [] = sym (xor-nil x)
xor-take [] (c ∷ b) = refl
xor-take (a ∷ x) (c ∷ b) = ap (λ (l : List ℕ). bit_xor a c ∷ l) (xor-take x b)

-- the first n blocks of the key stream
stream : List ℕ → List ℕ → ℕ → List ℕ
stream k b zero = []
stream k b (suc n) = stream k b n ++ Aes k (counter b n)

length-stream : (k b : List ℕ) (n : ℕ) → length (stream k b n) ≡ 16 * n
unfolding stream
length-stream k b zero = refl
length-stream k b (suc n) = omega (arith, length-append (stream k b n) (Aes k (counter b n)), length-stream k b n, length-Aes k (counter b n))

gctr_blocks-stream : (k b x : List ℕ) (n : ℕ) → gctr_blocks k b x n ≡ xor_bytes x (stream k b n)
unfolding stream gctr_blocks
gctr_blocks-stream k b x zero = sym (xor-nil x)
gctr_blocks-stream k b x (suc n) =
    let a : List ℕ = Aes k (counter b n) in
    let rest : List ℕ = drop (16 * n) x in
    (λ i. gctr_blocks-stream k b x n i ++ xor_bytes (take (sym (length-Aes k (counter b n)) i) rest) a)
    ∙ ap (λ (l : List ℕ). xor_bytes x (stream k b n) ++ l) (xor-take rest a)
    ∙ ap (λ (m : ℕ). xor_bytes x (stream k b n) ++ xor_bytes (drop m x) a) (sym (length-stream k b n))
    ∙ sym (xor-append x (stream k b n) a)

gctr_twice : (k b x : List ℕ) (n : ℕ) → length x ≤ 16 * n → gctr_blocks k b (gctr_blocks k b x n) n ≡ x
gctr_twice k b x n h =
    gctr_blocks-stream k b (gctr_blocks k b x n) n
    ∙ ap (λ (l : List ℕ). xor_bytes l (stream k b n)) (gctr_blocks-stream k b x n)
    ∙ xor_twice x (stream k b n) (omega (arith, length-stream k b n))

text_twice : (k iv p : List ℕ) → text_under k iv (text_under k iv p) ≡ p
unfolding text_under
text_twice k iv p =
    let b : List ℕ = inc32 (first_counter iv) in
    let len : length (gctr_blocks k b p (block_count p)) ≡ length p = length-text_under k iv p in
    ap (λ (m : ℕ). gctr_blocks k b (gctr_blocks k b p (block_count p)) ((m + 15) / 16)) len
    ∙ gctr_twice k b p (block_count p) (omega arith)

-- two lists that are cut at the same place
same_parts : (c t d u : List ℕ) → length t ≡ length u → c ++ t ≡ d ++ u → (c ≡ d) × (t ≡ u)
same_parts c t d u len e =
    let n : length c ≡ length d = omega (arith, length-append c t, length-append d u, ap length e) in (
      sym (take_at c t (length c) refl) ∙ ap (take (length c)) e ∙ take_at d u (length c) (sym n),
      sym (drop_at c t (length c) refl) ∙ ap (drop (length c)) e ∙ drop_at d u (length c) (sym n),
    )

pub opens_exactly : OpensExactlyWhatWasSealed
opens_exactly k iv a p c t len = (
  λ h.
      let back : text_under k iv p ≡ c = ap (text_under k iv) (sym h.1) ∙ text_twice k iv c in
      (λ i. sym back i ++ h.0 i) ∙ ap (λ (l : List ℕ). text_under k iv p ++ gcm_tag k iv a l) (sym back),
  λ e.
      let parts = same_parts c t (text_under k iv p) (gcm_tag k iv a (text_under k iv p)) (len ∙ sym (length-gcm_tag k iv a (text_under k iv p))) e in
      (parts.1 ∙ ap (gcm_tag k iv a) (sym parts.0), ap (text_under k iv) parts.0 ∙ text_twice k iv p),
)
