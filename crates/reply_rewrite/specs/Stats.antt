-- Stats: the store counts the bytes of payloads, and a client those of contents. The root has no payload.
use Rattle.std.specs.Prelude.{◌≡◌, ℕ, ℤ, pos, ◌≤ℤ◌, ◌-ℤ◌, List, [], ◌∷◌, length, Option}
use Rattle.zk_records.specs.declared.stat.Stat.{Stat}
use Rattle.payload_seal.specs.Payload.{Accepts, content_of}
use Rattle.payload_seal.specs.Flaws.{FlawOf}
use Rattle.payload_seal.specs.declared.opening.Flaw.{Flaw}
use Rattle.reply_rewrite.specs.declared.finding.Cause.{Cause}
use Rattle.reply_rewrite.specs.declared.finding.Cause.TheVariants.{Length, Payload}

-- a payload has 61 bytes more than its content
abbrev pub IsPlainLength : List (List ℕ) → ℤ → ℤ → Type 0
IsPlainLength [] stored plain = (stored ≡ pos 0) × (plain ≡ pos 0)
IsPlainLength (n ∷ p) stored plain = (pos 61 ≤ℤ stored) × (plain ≡ stored -ℤ pos 61)

-- the Stat of the node at the path, as a client sees it: the length is the content's, and all else the store's
pub record IsPlainStat (path : List (List ℕ)) (stored plain : Stat) : Type 0 where
  pub plain_length : IsPlainLength path stored.length plain.length
  pub same_rest : plain ≡ record stored { length = plain.length }

-- no payload there has the length
abbrev pub HasNoLength : List (List ℕ) → Stat → Type 0
HasNoLength path stored = (plain : ℤ) → IsPlainLength path stored.length plain → ⊥

-- the store tells a length that no payload there has
pub record HasBadLength (path : List (List ℕ)) (stored : Stat) (told : ℤ) : Type 0 where
  pub is_told : told ≡ stored.length
  pub unfit : HasNoLength path stored

-- the payload is accepted for the path, and the Stat has the length of its content
pub record IsPlainContent (keys path : List (List ℕ)) (payload : Option (List ℕ)) (stored : Stat) (content : Option (List ℕ)) (plain : Stat) : Type 0 where
  pub accepted : Accepts keys path (content_of payload) content
  pub stat : IsPlainStat path stored plain
  pub fits : plain.length ≡ pos (length (content_of content))

-- the payload is not accepted for the path; null has no bytes
abbrev pub HasFlaw : List (List ℕ) → List (List ℕ) → Option (List ℕ) → Flaw → Type 0
HasFlaw keys path payload flaw = FlawOf keys path (content_of payload) flaw

-- the payload is accepted for the path, and the store tells a length that is not its
pub record HasOtherLength (keys path : List (List ℕ)) (payload : Option (List ℕ)) (stored : Stat) (told : ℤ) : Type 0 where
  pub content : Option (List ℕ)
  pub accepted : Accepts keys path (content_of payload) content
  pub is_told : told ≡ stored.length
  pub unfit : IsPlainLength path stored.length (pos (length (content_of content))) → ⊥

-- what is wrong is the length
abbrev pub IsLengthCause : List (List ℕ) → Stat → Cause → Type 0
IsLengthCause path stored (Length told) = HasBadLength path stored told
IsLengthCause path stored cause = ⊥

-- what is wrong is the payload, and else the length
abbrev pub IsContentCause : List (List ℕ) → List (List ℕ) → Option (List ℕ) → Stat → Cause → Type 0
IsContentCause keys path payload stored (Payload flaw) = HasFlaw keys path payload flaw
IsContentCause keys path payload stored (Length told) = HasOtherLength keys path payload stored told
IsContentCause keys path payload stored cause = ⊥
