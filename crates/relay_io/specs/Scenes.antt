-- Where the events of a duo lead a session.
use Rattle.std.specs.Prelude.{◌≡◌, ℕ, List, [], ◌∷◌, ◌++◌, Option, Some, None}
use Rattle.payload_seal.specs.declared.keys.EntryKeys.{EntryKeys}
use Rattle.zk_messages.specs.Sent.{client_limit}
use Rattle.entry_session.specs.Heard.{Heard, given, client_frames, store_frames, bad_of_client, bad_of_store}
use Rattle.entry_session.specs.Stands.{Stand, fresh, ends}
use Rattle.entry_session.specs.Runs.{Ran, store_limit}
use Rattle.entry_session.specs.Sides.{IsSide, EndsAtClient, EndsAtStore, bytes_of}
use Rattle.entry_session.specs.Calls.{AreOfClient, AreOfStore}
use Rattle.entry_session.specs.declared.ending.Ending.{Ending}
use Rattle.entry_session.specs.declared.ending.Ending.TheVariants as endings
use Rattle.relay_io.specs.declared.duo.DuoEvent.{DuoEvent}
use Rattle.relay_io.specs.declared.duo.DuoEvent.TheVariants.{Client, Store, ClientEnd, StoreEnd, Idle}

-- Whose session it is: the keys, the boot, and the number of the connection.
pub record Line : Type 0 where
  pub keys : EntryKeys
  pub boot : ℕ
  pub connection : ℕ

-- A session in the middle of its events: what it heard, the last first; the bytes of each side that are no whole frame yet; and where
-- it stands.
pub record Scene : Type 0 where
  pub heard : List Heard
  pub client_rest : List ℕ
  pub store_rest : List ℕ
  pub stand : Stand

-- before the first event
abbrev pub opening : Scene
opening = record { heard = []; client_rest = []; store_rest = []; stand = fresh }

-- what was heard leads the session of the line here
abbrev pub RanOn : Line → List Heard → Stand → Type 0
RanOn line heard stand = Ran line.keys line.boot line.connection heard stand

-- The session hears the frames of its client that are whole with the piece.
pub record HearsClient (line : Line) (old : Scene) (piece : List ℕ) (new : Scene) : Type 0 where
  pub more : List Heard
  pub of_client : AreOfClient more
  pub heard : new.heard ≡ more ++ old.heard
  pub ran : RanOn line new.heard new.stand
  pub side : IsSide client_limit (client_frames more) (bad_of_client more) (EndsAtClient new.stand.ending more) (old.client_rest ++ piece)
  pub client_rest : new.client_rest ≡ side.rest
  pub store_rest : new.store_rest ≡ old.store_rest

-- The session hears the frames of the store that are whole with the piece.
pub record HearsStore (line : Line) (old : Scene) (piece : List ℕ) (new : Scene) : Type 0 where
  pub more : List Heard
  pub of_store : AreOfStore more
  pub heard : new.heard ≡ more ++ old.heard
  pub ran : RanOn line new.heard new.stand
  pub side : IsSide store_limit (store_frames more) (bad_of_store more) (EndsAtStore new.stand.ending more) (old.store_rest ++ piece)
  pub client_rest : new.client_rest ≡ old.client_rest
  pub store_rest : new.store_rest ≡ side.rest

-- the session is ended
abbrev pub ended : Scene → Ending → Scene
ended old ending = record old { heard = given ending ∷ old.heard; stand = ends old.stand ending }

-- an event leads a session that goes on from the one scene to the other
abbrev pub Leads : Line → Scene → DuoEvent → Scene → Type 0
Leads line old (Client piece) new = HearsClient line old piece new
Leads line old (Store piece) new = HearsStore line old piece new
Leads line old ClientEnd new = new ≡ ended old endings.ClientEnd
Leads line old StoreEnd new = new ≡ ended old endings.StoreEnd
Leads line old Idle new = new ≡ old

-- These events lead from the one scene to the other. No event is heard after an ending.
abbrev pub Passes : Line → Scene → List DuoEvent → Scene → Type 0
Passes line old [] new = new ≡ old
Passes line old (event ∷ more) new = (next : Scene) × (old.stand.ending ≡ None) × Leads line old event next × Passes line next more new

-- Memory was wanting in the middle of a piece of the client: of the frames that are whole with it the session heard the first.
pub record HearsFirst (line : Line) (old : Scene) (piece : List ℕ) (new : Scene) : Type 0 where
  pub more : List Heard
  pub of_client : AreOfClient more
  pub heard : new.heard ≡ more ++ old.heard
  pub ran : RanOn line new.heard new.stand
  pub goes_on : new.stand.ending ≡ None
  pub cut : old.client_rest ++ piece ≡ bytes_of (client_frames more) ++ new.client_rest
  pub store_rest : new.store_rest ≡ old.store_rest

-- so far an event led for which memory was wanting; of a piece of the store nothing was heard
abbrev pub LeadsInPart : Line → Scene → DuoEvent → Scene → Type 0
LeadsInPart line old (Client piece) new = HearsFirst line old piece new
LeadsInPart line old (Store piece) new = new ≡ old
LeadsInPart line old event new = ⊥
