-- Payload keys: one for each epoch from 0 on, in a list. This project's own form.
use Rattle.std.specs.Prelude.{◌≡◌, ℕ, zero, suc, ◌+◌, ◌-◌, ◌*◌, ◌<◌, ◌≤◌, List, [], ◌∷◌, ◌++◌, length, get_or, take, drop, replicate}

-- the epoch whose key a payload is sealed under: the first byte of its IV, and so of the payload
abbrev pub epoch_of : List ℕ → ℕ
epoch_of bytes = get_or bytes 0 0

-- the key of an epoch
abbrev pub key_of : List (List ℕ) → ℕ → List ℕ
key_of keys epoch = get_or keys epoch []

-- how long a file of keys is: 64 bytes, and 16 for each epoch after the first one, at most 255 times
abbrev pub IsKeyFileSize : ℕ → Type 0
IsKeyFileSize size = (n : ℕ) × (n ≤ 255) × (size ≡ 64 + 16 * n)

-- the first n keys of 16 bytes each
unfoldable pub keys_in : List ℕ → ℕ → List (List ℕ)
keys_in bytes zero = []
keys_in bytes (suc n) = keys_in bytes n ++ take 16 (drop (16 * n) bytes) ∷ []

-- the payload keys in a file of 64 + 16 n bytes: that of epoch 0 after the name key, and those of the epochs 1 to n at the end
abbrev pub payload_keys : List ℕ → ℕ → List (List ℕ)
payload_keys file n = take 16 (drop 16 file) ∷ keys_in (drop 64 file) n

-- the places of 256 keys: these first, and then zeros
unfoldable pub places_of : List (List ℕ) → List (List ℕ)
places_of keys = keys ++ replicate (256 - length keys) (replicate 16 0)

-- the places of the keys up to the greatest epoch, whose key is ready for sealing
pub record HoldsKeys (places : List (List ℕ)) (epoch : ℕ) (ready : List ℕ) : Type 0 where
  pub size : length places ≡ 256
  pub fits : epoch < 256
  pub rest : drop (epoch + 1) places ≡ replicate (255 - epoch) (replicate 16 0)
  pub is_ready : ready ≡ key_of places epoch
