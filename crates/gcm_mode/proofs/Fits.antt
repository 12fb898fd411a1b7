-- What is sealed and opened are bytes, where the key and the text are.
use Rattle.std.proofs.Common.{ℕ, zero, suc, ◌*◌, ◌/◌, ◌%◌, ◌^◌, ◌<◌, List, [], ◌∷◌, replicate, take, drop, bit_xor, arith}
use Rattle.std.proofs.lemmas.Nat.{xor_lt}
use Rattle.std.specs.Int.{w128, byte_at, bytes_high_first, from_be_bytes, to_be_bytes}
use Rattle.aes_block.specs.Aes.{Aes}
use Rattle.aes_block.specs.Laws.{IsBytes}
use Rattle.aes_block.proofs.Fits.{bytes_none, bytes_cons, bytes_rest, bytes_append, bytes_take, bytes_drop, bytes_Aes}
use Rattle.gcm_mode.specs.Ghash.{block_count, ghash}
use Rattle.gcm_mode.specs.Gcm.{inc32, counter, xor_bytes, gctr_blocks, first_counter, tagged_blocks, text_under, gcm_tag}
use Rattle.gcm_mode.specs.Laws.{SealsToBytes}

bytes_xor : (x y : List ℕ) → IsBytes x → IsBytes y → IsBytes (xor_bytes x y)
bytes_xor [] y h g = bytes_none
bytes_xor (a ∷ x) [] h g = bytes_none
bytes_xor (a ∷ x) (b ∷ y) h g =
    bytes_cons (bit_xor a b) (xor_bytes x y) (xor_lt 8 a b (h 0) (g 0)) (bytes_xor x y (bytes_rest a x h) (bytes_rest b y g))

mod-lt : (n : ℕ) → n % 256 < 256
mod-lt n = omega arith

byte_at-lt : (i n : ℕ) → byte_at i n < 256
byte_at-lt zero n = mod-lt n
byte_at-lt (suc i) n = mod-lt (n / 256 ^ suc i)

bytes_of_number : (k n : ℕ) → IsBytes (bytes_high_first k n)
bytes_of_number zero n = bytes_none
bytes_of_number (suc k) n = bytes_cons (byte_at k n) (bytes_high_first k n) (byte_at-lt k n) (bytes_of_number k n)

bytes_gctr_blocks : (k b x : List ℕ) (n : ℕ) → IsBytes k → IsBytes x → IsBytes (gctr_blocks k b x n)
unfolding gctr_blocks
bytes_gctr_blocks k b x zero h g = bytes_none
bytes_gctr_blocks k b x (suc n) h g =
    let part : List ℕ = take 16 (drop (16 * n) x) in
    bytes_append (gctr_blocks k b x n) (xor_bytes part (Aes k (counter b n))) (bytes_gctr_blocks k b x n h g)
    (bytes_xor part (Aes k (counter b n)) (bytes_take 16 (drop (16 * n) x) (bytes_drop (16 * n) x g)) (bytes_Aes k (counter b n) h))

bytes_text_under : (k iv x : List ℕ) → IsBytes k → IsBytes x → IsBytes (text_under k iv x)
unfolding text_under
bytes_text_under k iv x h g = bytes_gctr_blocks k (inc32 (first_counter iv)) x (block_count x) h g

bytes_gcm_tag : (k iv a c : List ℕ) → IsBytes k → IsBytes (gcm_tag k iv a c)
unfolding gcm_tag
bytes_gcm_tag k iv a c h =
    let hash : ℕ = ghash (from_be_bytes w128 (Aes k (replicate 16 0))) 0 (tagged_blocks a c) in
    bytes_gctr_blocks k (first_counter iv) (to_be_bytes w128 hash) 1 h (bytes_of_number 16 hash)

pub seals_to_bytes : SealsToBytes
seals_to_bytes = (bytes_text_under, bytes_gcm_tag)
