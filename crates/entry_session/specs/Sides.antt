-- What a session heard of one side, beside the bytes of that side.
use Rattle.std.specs.Prelude.{◌≡◌, ℕ, ℤ, List, ◌∷◌, ◌++◌, Option, Some, None, IfSome}
use Rattle.std.specs.List.{flat_map}
use Rattle.jute_core.specs.Frames.{frame, IsRest}
use Rattle.zk_frame.specs.Framing.{IsTooLong}
use Rattle.entry_session.specs.Heard.{Heard, from_client, from_store, bad_client, bad_store}
use Rattle.entry_session.specs.declared.ending.Ending.{Ending}

-- the frames with these bodies, one after another
abbrev pub bytes_of : List (List ℕ) → List ℕ
bytes_of bodies = flat_map frame bodies

-- the session ended at what it heard last, which is of the client: the piece that had it may hold more
unfoldable pub EndsAtClient : Option Ending → List Heard → Type 0
EndsAtClient None hs = ⊥
EndsAtClient (Some e) (from_client body ∷ hs) = Unit {0}
EndsAtClient (Some e) (bad_client z ∷ hs) = Unit {0}
EndsAtClient (Some e) hs = ⊥

-- the same of the store
unfoldable pub EndsAtStore : Option Ending → List Heard → Type 0
EndsAtStore None hs = ⊥
EndsAtStore (Some e) (from_store body ∷ hs) = Unit {0}
EndsAtStore (Some e) (bad_store z ∷ hs) = Unit {0}
EndsAtStore (Some e) hs = ⊥

-- The frames heard of a side are the first of its bytes. Behind them stands the bad length, if one was heard. Unless the session ended at a
-- frame or a bad length of this side, what is left is a part of a frame, and names no bad length.
pub record IsSide (limit : ℕ) (bodies : List (List ℕ)) (bad : Option ℤ) (ended_here : Type 0) (bytes : List ℕ) : Type 0 where
  pub rest : List ℕ
  pub whole : bytes ≡ bytes_of bodies ++ rest
  pub named : IfSome bad (λ z. IsTooLong limit rest z)
  pub partial : (ended_here → ⊥) → IsRest rest
  pub within : (ended_here → ⊥) → (z : ℤ) → IsTooLong limit rest z → ⊥
