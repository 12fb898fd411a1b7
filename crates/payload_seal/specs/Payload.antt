-- Payloads: this project's own form, over SHA-256 (FIPS 180-4) and GCM (NIST SP 800-38D).
--
-- A path is a list of components, the last one first. A sequential node is sealed for its stem, before the store numbers it.
use Rattle.std.specs.Prelude.{◌≡◌, ℕ, ◌+◌, ◌<◌, Bool, true, false, List, [], ◌∷◌, ◌++◌, length, Option, Some, None}
use Rattle.sha2.specs.Sha256.{sha256}
use Rattle.gcm_mode.specs.Gcm.{Gcm, gcm_tag, text_under}
use Rattle.zk_path.specs.Paths.{text_of}
use Rattle.zk_path.specs.Numbers.{IsStemOf}
use Rattle.path_seal.specs.Names.{IsCut}
use Rattle.payload_seal.specs.Keys.{epoch_of, key_of}

-- bit 0 of a flag: the node is sequential
abbrev pub sequential_bit : Bool → ℕ
sequential_bit false = 0
sequential_bit true = 1

-- the flag of a content: bit 0 where the node is sequential, bit 1 where the content is null
abbrev pub flag_of : Bool → Option (List ℕ) → ℕ
flag_of sequential None = sequential_bit sequential + 2
flag_of sequential (Some content) = sequential_bit sequential

-- the bytes of a content: none of null
abbrev pub content_of : Option (List ℕ) → List ℕ
content_of None = []
content_of (Some content) = content

-- the flag, the digest of the text of the path or the stem, and the content
unfoldable pub plain_payload : List (List ℕ) → Bool → Option (List ℕ) → List ℕ
plain_payload p sequential d = flag_of sequential d ∷ (sha256 (text_of p) ++ content_of d)

-- the IV, and the ciphertext and the tag of that under the key whose epoch is the IV's first byte, without additional data
unfoldable pub SealData : List (List ℕ) → List ℕ → List (List ℕ) → Bool → Option (List ℕ) → List ℕ
SealData keys iv p sequential d = iv ++ Gcm (key_of keys (epoch_of iv)) iv [] (plain_payload p sequential d)

-- the payload is an IV, a ciphertext and a tag; the IV's first byte is at most the greatest epoch; the tag is GCM's under the
-- key of that epoch, and the ciphertext opens to the plain text
pub record OpensTo (keys : List (List ℕ)) (payload plain : List ℕ) : Type 0 where
  pub iv : List ℕ
  pub text : List ℕ
  pub tag : List ℕ
  pub parts : IsCut payload iv text tag
  pub known : epoch_of iv < length keys
  pub right : tag ≡ gcm_tag (key_of keys (epoch_of iv)) iv [] text
  pub opened : text_under (key_of keys (epoch_of iv)) iv text ≡ plain

-- the digest is that of the path's text, or of that text without its ten last digits where the node is sequential
abbrev pub IsDigestFor : List (List ℕ) → Bool → List ℕ → Type 0
IsDigestFor p false digest = digest ≡ sha256 (text_of p)
IsDigestFor p true digest = (stem : List (List ℕ)) × IsStemOf p stem × (digest ≡ sha256 (text_of stem))

-- the payload opens to the flag of the content, a digest for the path, and the content
pub record Accepts (keys p : List (List ℕ)) (payload : List ℕ) (d : Option (List ℕ)) : Type 0 where
  pub sequential : Bool
  pub digest : List ℕ
  pub opened : OpensTo keys payload (flag_of sequential d ∷ (digest ++ content_of d))
  pub for_path : IsDigestFor p sequential digest
