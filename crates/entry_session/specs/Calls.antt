-- What the calls of a session say.
use Rattle.std.specs.Prelude.{◌≡◌, ℕ, List, [], ◌∷◌, ◌++◌, Result, Ok, Err, Option, Some, None}
use Rattle.zk_messages.specs.Sent.{client_limit}
use Rattle.reply_rewrite.specs.declared.finding.Finding.{Finding}
use Rattle.entry_session.specs.Heard.{Heard, from_client, from_store, bad_client, bad_store, client_frames, store_frames, bad_of_client, bad_of_store}
use Rattle.entry_session.specs.Stands.{Stand}
use Rattle.entry_session.specs.ClientTurns.{ClientTurn}
use Rattle.entry_session.specs.StoreTurns.{StoreTurn}
use Rattle.entry_session.specs.Runs.{Ran, store_limit}
use Rattle.entry_session.specs.Sides.{IsSide, EndsAtClient, EndsAtStore, bytes_of}
use Rattle.entry_session.specs.Kept.{Going, Kept, IsGoing, At}
use Rattle.entry_session.specs.declared.ending.Ending.{Ending}

-- the answer of a call that leaves a session with this ending, if any
unfoldable pub answer_of : Option Ending → Result (Unit {0}) Ending
answer_of None = Ok record {}
answer_of (Some e) = Err e

-- ---- at one frame

-- where a session goes on from here, it stands there after the turn, and so it is answered
pub record Turned (new : Going) (answer : Result (Unit {0}) Ending) (t : Stand) : Type 0 where
  pub answered : answer ≡ answer_of t.ending
  pub going : t.ending ≡ None → IsGoing new t

-- a frame of the client was heard, and what it hands up was added to these bytes
pub record HearsClient (old new : Going) (answer : Result (Unit {0}) Ending) (s : Stand) (body up more_up : List ℕ) : Type 0 where
  pub t : Stand
  pub turn : ClientTurn old.keys old.ivs.boot old.ivs.connection s body t
  pub turned : Turned new answer t
  pub gained : List (List ℕ)
  pub handed : t.up ≡ s.up ++ gained
  pub added : more_up ≡ up ++ bytes_of gained

-- a frame of the store was heard, and what it hands down and the findings were added to these
pub record HearsStore (old new : Going) (answer : Result (Unit {0}) Ending) (s : Stand) (body down more_down : List ℕ) (findings more_findings : List Finding) : Type 0 where
  pub t : Stand
  pub turn : StoreTurn old.keys old.ivs.connection s body t s.items s.answered
  pub turned : Turned new answer t
  pub gained : List (List ℕ)
  pub handed : t.down ≡ s.down ++ gained
  pub added : more_down ≡ down ++ bytes_of gained
  pub found : List Finding
  pub findings_are : t.findings ≡ s.findings ++ found
  pub findings_added : more_findings ≡ findings ++ found

-- ---- at a piece of bytes

unfoldable pub AreOfClient : List Heard → Type 0
AreOfClient [] = Unit {0}
AreOfClient (from_client body ∷ hs) = AreOfClient hs
AreOfClient (bad_client z ∷ hs) = AreOfClient hs
AreOfClient (h ∷ hs) = ⊥

unfoldable pub AreOfStore : List Heard → Type 0
AreOfStore [] = Unit {0}
AreOfStore (from_store body ∷ hs) = AreOfStore hs
AreOfStore (bad_store z ∷ hs) = AreOfStore hs
AreOfStore (h ∷ hs) = ⊥

-- From where it stood, a session heard more of its client, the last first; what was handed up for that was added to these bytes.
pub record GoesUp (kept : Going) (hs more : List Heard) (s t : Stand) (up more_up : List ℕ) : Type 0 where
  pub ran : Ran kept.keys kept.ivs.boot kept.ivs.connection (more ++ hs) t
  pub of_client : AreOfClient more
  pub gained : List (List ℕ)
  pub handed : t.up ≡ s.up ++ gained
  pub added : more_up ≡ up ++ bytes_of gained
  pub down : t.down ≡ s.down
  pub findings : t.findings ≡ s.findings

-- All bytes of the piece were taken, up to an ending.
pub record TakesFromClient (old new : Kept) (hs : List Heard) (client_rest store_rest : List ℕ) (s : Stand) (piece up more_up : List ℕ) : Type 0 where
  pub more : List Heard
  pub t : Stand
  pub goes_up : GoesUp old.going hs more s t up more_up
  pub side : IsSide client_limit (client_frames more) (bad_of_client more) (EndsAtClient t.ending more) (client_rest ++ piece)
  pub at : At new (more ++ hs) side.rest store_rest t

-- Memory was wanting after some frames: these were heard, and what is behind them was not.
pub record WantsAtClient (old : Going) (hs : List Heard) (client_rest : List ℕ) (s : Stand) (piece up more_up : List ℕ) : Type 0 where
  pub more : List Heard
  pub t : Stand
  pub goes_up : GoesUp old hs more s t up more_up
  pub goes_on : t.ending ≡ None
  pub left : List ℕ
  pub cut : client_rest ++ piece ≡ bytes_of (client_frames more) ++ left

-- In the same way of the store.
pub record GoesDown (kept : Going) (hs more : List Heard) (s t : Stand) (down more_down : List ℕ) (findings more_findings : List Finding) : Type 0 where
  pub ran : Ran kept.keys kept.ivs.boot kept.ivs.connection (more ++ hs) t
  pub of_store : AreOfStore more
  pub gained : List (List ℕ)
  pub handed : t.down ≡ s.down ++ gained
  pub added : more_down ≡ down ++ bytes_of gained
  pub found : List Finding
  pub findings_are : t.findings ≡ s.findings ++ found
  pub findings_added : more_findings ≡ findings ++ found
  pub up : t.up ≡ s.up

pub record TakesFromStore (old new : Kept) (hs : List Heard) (client_rest store_rest : List ℕ) (s : Stand) (piece down more_down : List ℕ) (findings more_findings : List Finding) : Type 0 where
  pub more : List Heard
  pub t : Stand
  pub goes_down : GoesDown old.going hs more s t down more_down findings more_findings
  pub side : IsSide store_limit (store_frames more) (bad_of_store more) (EndsAtStore t.ending more) (store_rest ++ piece)
  pub at : At new (more ++ hs) client_rest side.rest t

pub record WantsAtStore (old : Going) (hs : List Heard) (store_rest : List ℕ) (s : Stand) (piece down more_down : List ℕ) (findings more_findings : List Finding) : Type 0 where
  pub more : List Heard
  pub t : Stand
  pub goes_down : GoesDown old hs more s t down more_down findings more_findings
  pub goes_on : t.ending ≡ None
  pub left : List ℕ
  pub cut : store_rest ++ piece ≡ bytes_of (store_frames more) ++ left
