-- The one flaw of a payload that is not accepted for a path.
use Rattle.std.specs.Prelude.{◌≡◌, ◌≢◌, ◌<◌, ◌≤◌, ◌⊎◌, ◌==◌, ◌%◌, ℕ, Bool, List, [], ◌∷◌, ◌++◌, length}
use Rattle.sha2.specs.Sha256.{sha256}
use Rattle.zk_path.specs.Paths.{text_of}
use Rattle.payload_seal.specs.Keys.{epoch_of}
use Rattle.payload_seal.specs.Payload.{OpensTo, IsDigestFor}
use Rattle.payload_seal.specs.declared.opening.Flaw.{Flaw}
use Rattle.payload_seal.specs.declared.opening.Flaw.TheVariants.{Short, UnknownEpoch, BadTag, BadFlag, WrongPath}
use Rattle.payload_seal.specs.declared.opening.NotOpened.{NotOpened}
use Rattle.payload_seal.specs.declared.opening.NotOpened.TheVariants.{Flawed, Memory}

-- a plain text is a flag, 32 bytes and the content
pub record IsPlain (plain : List ℕ) (flag : ℕ) (digest content : List ℕ) : Type 0 where
  pub whole : plain ≡ flag ∷ (digest ++ content)
  pub size : length digest ≡ 32

-- the flag is above 3, or its bit 1 is set and content follows
abbrev pub IsBadFlag : ℕ → List ℕ → Type 0
IsBadFlag flag content = (3 < flag) ⊎ ((2 ≤ flag) × (content ≢ []))

-- bit 0 of a flag
abbrev pub is_sequential : ℕ → Bool
is_sequential flag = flag % 2 == 1

-- the payload is long enough, and its first byte is an epoch above the greatest
pub record HasUnknownEpoch (keys : List (List ℕ)) (payload : List ℕ) (epoch : ℕ) : Type 0 where
  pub long : 61 ≤ length payload
  pub is_first : epoch ≡ epoch_of payload
  pub unknown : length keys ≤ epoch

-- the payload is long enough and of a known epoch, and its tag is not GCM's
pub record HasBadTag (keys : List (List ℕ)) (payload : List ℕ) : Type 0 where
  pub long : 61 ≤ length payload
  pub known : epoch_of payload < length keys
  pub closed : (plain : List ℕ) → OpensTo keys payload plain → ⊥

-- the tag is right, and the flag is bad
pub record HasBadFlag (keys : List (List ℕ)) (payload : List ℕ) (flag : ℕ) : Type 0 where
  pub digest : List ℕ
  pub content : List ℕ
  pub plain : List ℕ
  pub opened : OpensTo keys payload plain
  pub parts : IsPlain plain flag digest content
  pub bad : IsBadFlag flag content

-- the tag is right and the flag is good, and the digest is not for the path; `asked` is the digest of the path's own text
pub record HasWrongPath (keys p : List (List ℕ)) (payload : List ℕ) (digest asked : List ℕ) : Type 0 where
  pub flag : ℕ
  pub content : List ℕ
  pub plain : List ℕ
  pub opened : OpensTo keys payload plain
  pub parts : IsPlain plain flag digest content
  pub good : IsBadFlag flag content → ⊥
  pub other : IsDigestFor p (is_sequential flag) digest → ⊥
  pub is_asked : asked ≡ sha256 (text_of p)

-- the first flaw of the payload
abbrev pub FlawOf : List (List ℕ) → List (List ℕ) → List ℕ → Flaw → Type 0
FlawOf keys p payload (Short size) = (size ≡ length payload) × (size < 61)
FlawOf keys p payload (UnknownEpoch epoch) = HasUnknownEpoch keys payload epoch
FlawOf keys p payload BadTag = HasBadTag keys payload
FlawOf keys p payload (BadFlag flag) = HasBadFlag keys payload flag
FlawOf keys p payload (WrongPath digest asked) = HasWrongPath keys p payload digest asked

-- why a payload was not opened: its flaw, or there was no memory
abbrev pub IsFlawIn : List (List ℕ) → List (List ℕ) → List ℕ → NotOpened → Type 0
IsFlawIn keys p payload (Flawed flaw) = FlawOf keys p payload flaw
IsFlawIn keys p payload Memory = Unit {0}
