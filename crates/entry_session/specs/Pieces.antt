-- How a piece of bytes is taken, frame by frame.
use Rattle.std.specs.Prelude.{◌≡◌, ℕ, ℤ, ◌≤◌, List, [], ◌++◌, length, take, Result, Ok, Err, Option, Some, None}
use Rattle.jute_core.specs.Frames.{frame}
use Rattle.zk_frame.specs.Framing.{Framing, IsTooLong}
use Rattle.zk_messages.specs.Sent.{client_limit}
use Rattle.reply_rewrite.specs.declared.finding.Finding.{Finding}
use Rattle.entry_session.specs.Heard.{Heard, client_frames, store_frames, bad_of_client, bad_of_store}
use Rattle.entry_session.specs.Stands.{Stand}
use Rattle.entry_session.specs.Runs.{Ran, store_limit}
use Rattle.entry_session.specs.Sides.{IsSide, EndsAtClient, EndsAtStore, bytes_of}
use Rattle.entry_session.specs.Kept.{Going, IsGoing, IsPart}
use Rattle.entry_session.specs.Calls.{HearsClient, HearsStore, GoesUp, GoesDown, answer_of}
use Rattle.entry_session.specs.declared.ending.Ending.{Ending}
use Rattle.entry_session.specs.declared.ending.Ending.TheVariants.{Memory, ClientTooLong, StoreTooLong}

-- a session goes on from here
pub record GoesOn (kept : Going) (hs : List Heard) (s : Stand) : Type 0 where
  pub ran : Ran kept.keys kept.ivs.boot kept.ivs.connection hs s
  pub goes_on : s.ending ≡ None
  pub going : IsGoing kept s

-- ---- one turn

-- the bytes held and the first ones of the piece were one frame, and nothing is held now
pub record CutsFrame (old new : Framing) (piece : List ℕ) (count : ℕ) (body : List ℕ) : Type 0 where
  pub within : count ≤ length piece
  pub short : length body ≤ old.limit
  pub whole : old.held ++ take count piece ≡ frame body
  pub left : new ≡ record { limit = old.limit; held = [] }

-- all bytes of the piece are held now, and no frame is whole
pub record KeepsPart (old new : Framing) (piece : List ℕ) : Type 0 where
  pub kept : new ≡ record { limit = old.limit; held = old.held ++ piece }
  pub part : IsPart old.limit (old.held ++ piece)

-- the bytes held and those of the piece begin with this frame
pub record BeginsFrame (old : Framing) (piece body : List ℕ) : Type 0 where
  pub more : List ℕ
  pub short : length body ≤ old.limit
  pub begins : old.held ++ piece ≡ frame body ++ more

-- from each stand, this frame of the client was heard
abbrev pub HearsAtClient : Going → Going → Result (Unit {0}) Ending → List ℕ → List ℕ → List ℕ → Type 0
HearsAtClient old new answer body up more_up = (s : Stand) → IsGoing old s → s.ending ≡ None → HearsClient old new answer s body up more_up

pub record HeardClient (f g : Framing) (old new : Going) (piece up more_up : List ℕ) (count : ℕ) : Type 0 where
  pub body : List ℕ
  pub cuts : CutsFrame f g piece count body
  pub hears : HearsAtClient old new (Ok record {}) body up more_up

pub record NoneOfClient (f g : Framing) (old new : Going) (piece up more_up : List ℕ) : Type 0 where
  pub keeps : KeepsPart f g piece
  pub going : new ≡ old
  pub up_is : more_up ≡ up

pub data FailsClient (f : Framing) (old new : Going) (piece up more_up : List ℕ) (e : Ending) : Type 0 where
  at_frame : (body : List ℕ) → BeginsFrame f piece body → HearsAtClient old new (Err e) body up more_up → FailsClient f old new piece up more_up e
  at_length : (z : ℤ) → e ≡ ClientTooLong z → IsTooLong f.limit (f.held ++ piece) z → new ≡ old → more_up ≡ up → FailsClient f old new piece up more_up e

-- the next frame of the client
abbrev pub NextOfClient : Framing → Framing → Going → Going → List ℕ → List ℕ → List ℕ → Result (Option ℕ) Ending → Type 0
NextOfClient f g old new piece up more_up (Ok (Some count)) = HeardClient f g old new piece up more_up count
NextOfClient f g old new piece up more_up (Ok None) = NoneOfClient f g old new piece up more_up
NextOfClient f g old new piece up more_up (Err e) = (e ≡ Memory → ⊥) → FailsClient f old new piece up more_up e

-- the same of the store
abbrev pub HearsAtStore : Going → Going → Result (Unit {0}) Ending → List ℕ → List ℕ → List ℕ → List Finding → List Finding → Type 0
HearsAtStore old new answer body down more_down findings more_findings = (s : Stand) → IsGoing old s → s.ending ≡ None → HearsStore old new answer s body down more_down findings more_findings

pub record HeardStore (f g : Framing) (old new : Going) (piece down more_down : List ℕ) (findings more_findings : List Finding) (count : ℕ) : Type 0 where
  pub body : List ℕ
  pub cuts : CutsFrame f g piece count body
  pub hears : HearsAtStore old new (Ok record {}) body down more_down findings more_findings

pub record NoneOfStore (f g : Framing) (old new : Going) (piece down more_down : List ℕ) (findings more_findings : List Finding) : Type 0 where
  pub keeps : KeepsPart f g piece
  pub going : new ≡ old
  pub down_is : more_down ≡ down
  pub findings_are : more_findings ≡ findings

pub data FailsStore (f : Framing) (old new : Going) (piece down more_down : List ℕ) (findings more_findings : List Finding) (e : Ending) : Type 0 where
  at_store_frame : (body : List ℕ) → BeginsFrame f piece body → HearsAtStore old new (Err e) body down more_down findings more_findings → FailsStore f old new piece down more_down findings more_findings e
  at_store_length : (z : ℤ) → e ≡ StoreTooLong z → IsTooLong f.limit (f.held ++ piece) z → new ≡ old → more_down ≡ down → more_findings ≡ findings → FailsStore f old new piece down more_down findings more_findings e

-- the next frame of the store
abbrev pub NextOfStore : Framing → Framing → Going → Going → List ℕ → List ℕ → List ℕ → List Finding → List Finding → Result (Option ℕ) Ending → Type 0
NextOfStore f g old new piece down more_down findings more_findings (Ok (Some count)) = HeardStore f g old new piece down more_down findings more_findings count
NextOfStore f g old new piece down more_down findings more_findings (Ok None) = NoneOfStore f g old new piece down more_down findings more_findings
NextOfStore f g old new piece down more_down findings more_findings (Err e) = (e ≡ Memory → ⊥) → FailsStore f old new piece down more_down findings more_findings e

-- ---- a piece

-- so far, with these bytes left
pub record ReachesUp (old now : Going) (hs : List Heard) (s : Stand) (bytes left up more_up : List ℕ) : Type 0 where
  pub more : List Heard
  pub t : Stand
  pub goes_up : GoesUp old hs more s t up more_up
  pub goes_on : t.ending ≡ None
  pub going : IsGoing now t
  pub unnamed : bad_of_client more ≡ None
  pub cut : bytes ≡ bytes_of (client_frames more) ++ left

-- at the end
pub record EndsUp (old new : Going) (answer : Result (Unit {0}) Ending) (hs : List Heard) (s : Stand) (bytes held up more_up : List ℕ) : Type 0 where
  pub more : List Heard
  pub t : Stand
  pub goes_up : GoesUp old hs more s t up more_up
  pub answered : answer ≡ answer_of t.ending
  pub going : t.ending ≡ None → IsGoing new t
  pub side : IsSide client_limit (client_frames more) (bad_of_client more) (EndsAtClient t.ending more) bytes
  pub kept : t.ending ≡ None → held ≡ side.rest

-- the same of the store
pub record ReachesDown (old now : Going) (hs : List Heard) (s : Stand) (bytes left down more_down : List ℕ) (findings more_findings : List Finding) : Type 0 where
  pub more : List Heard
  pub t : Stand
  pub goes_down : GoesDown old hs more s t down more_down findings more_findings
  pub goes_on : t.ending ≡ None
  pub going : IsGoing now t
  pub unnamed : bad_of_store more ≡ None
  pub cut : bytes ≡ bytes_of (store_frames more) ++ left

pub record EndsDown (old new : Going) (answer : Result (Unit {0}) Ending) (hs : List Heard) (s : Stand) (bytes held down more_down : List ℕ) (findings more_findings : List Finding) : Type 0 where
  pub more : List Heard
  pub t : Stand
  pub goes_down : GoesDown old hs more s t down more_down findings more_findings
  pub answered : answer ≡ answer_of t.ending
  pub going : t.ending ≡ None → IsGoing new t
  pub side : IsSide store_limit (store_frames more) (bad_of_store more) (EndsAtStore t.ending more) bytes
  pub kept : t.ending ≡ None → held ≡ side.rest
