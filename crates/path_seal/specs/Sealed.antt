-- Sealed names, paths and stems: this project's own form, over SHA-256 (FIPS 180-4) and GCM (NIST SP 800-38D).
--
-- A name is sealed under the plain path above it, so that equal names at different places are sealed differently, and
-- the same name at the same place always alike. A path is a list of components, the last one first.
use Rattle.std.specs.Prelude.{◌≡◌, ℕ, List, [], ◌∷◌, ◌++◌, length, take}
use Rattle.aes_block.specs.Laws.{IsBytes}
use Rattle.hex.specs.Hex.{encode_lower}
use Rattle.sha2.specs.Sha256.{sha256}
use Rattle.gcm_mode.specs.Gcm.{Gcm}
use Rattle.zk_path.specs.Paths.{IsComponent, IsPath, IsStem, joined, text_of}

-- what names are sealed under: a key for the cipher, and a salt for the IVs
pub record Keys : Type 0 where
  pub key : List ℕ
  pub salt : List ℕ

-- a key of 16 bytes and a salt of 32
pub record AreKeys (k : Keys) : Type 0 where
  pub key_bytes : IsBytes k.key
  pub key_size : length k.key ≡ 16
  pub salt_bytes : IsBytes k.salt
  pub salt_size : length k.salt ≡ 32

-- the IV of a name: the first 12 bytes of the hash of the salt and the text of the path up to and including the name
unfoldable pub name_iv : Keys → List (List ℕ) → List ℕ → List ℕ
name_iv k p n = take 12 (sha256 (k.salt ++ joined (n ∷ p)))

-- the IV, and the ciphertext and the tag of the name, with the text of the path above it as additional data
unfoldable pub sealed_bytes : Keys → List (List ℕ) → List ℕ → List ℕ
sealed_bytes k p n = name_iv k p n ++ Gcm k.key (name_iv k p n) (text_of p) n

-- the name n under the path p, in lower-case hex
unfoldable pub SealName : Keys → List (List ℕ) → List ℕ → List ℕ
SealName k p n = encode_lower (sealed_bytes k p n)

-- each component sealed under those above it
unfoldable pub sealed : Keys → List (List ℕ) → List (List ℕ)
sealed k [] = []
sealed k (n ∷ p) = SealName k p n ∷ sealed k p

-- the text of a sealed path: the root stays /
abbrev pub SealPath : Keys → List (List ℕ) → List ℕ
SealPath k p = text_of (sealed k p)

-- the text of a sealed stem
abbrev pub SealStem : Keys → List (List ℕ) → List ℕ
SealStem k s = joined (sealed k s)

-- a text opens to what is legal and sealed to it
abbrev pub OpensName : Keys → List (List ℕ) → List ℕ → List ℕ → Type 0
OpensName k p c n = IsComponent n × (SealName k p n ≡ c)

abbrev pub Opens : Keys → List ℕ → List (List ℕ) → Type 0
Opens k c p = IsPath p × (SealPath k p ≡ c)

abbrev pub OpensStem : Keys → List ℕ → List (List ℕ) → Type 0
OpensStem k c s = IsStem s × (SealStem k s ≡ c)
