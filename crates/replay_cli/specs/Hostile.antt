-- One session over the events of a hostile script, and what is printed of it.
use Rattle.std.specs.Prelude.{◌≡◌, ℕ, List, [], ◌∷◌, ◌++◌, length, codes, take, drop, Option, Some, None, ◌+◌, ◌*◌}
use Rattle.std.specs.Fmt.{decimal}
use Rattle.payload_seal.specs.Keys.{payload_keys}
use Rattle.payload_seal.specs.declared.keys.EntryKeys.{EntryKeys}
use Rattle.zk_messages.specs.Sent.{client_limit}
use Rattle.entry_session.specs.Heard.{Heard, given, client_frames, store_frames, bad_of_client, bad_of_store}
use Rattle.entry_session.specs.Stands.{Stand, fresh, ends}
use Rattle.entry_session.specs.Runs.{Ran, store_limit}
use Rattle.entry_session.specs.Sides.{IsSide, EndsAtClient, EndsAtStore, bytes_of}
use Rattle.entry_session.specs.Calls.{AreOfClient, AreOfStore}
use Rattle.entry_session.specs.declared.ending.Ending.{Ending}
use Rattle.entry_session.specs.declared.ending.Ending.TheVariants as endings
use Rattle.reply_rewrite.specs.declared.finding.Finding.{Finding}
use Rattle.audit_board.specs.Fields.{field, line_feed}
use Rattle.replay_cli.specs.Printed.{line, bytes_text}
use Rattle.audit_board.specs.Findings.{findings_text}
use Rattle.replay_cli.specs.Endings.{session_text}
use Rattle.replay_cli.specs.declared.hostile_script.HostileEvent.{HostileEvent}
use Rattle.replay_cli.specs.declared.hostile_script.HostileEvent.TheVariants.{Client, Store, ClientEnd, StoreEnd}

-- these keys stand in the bytes of a key file
pub record IsKeysOf (file : List ℕ) (keys : EntryKeys) : Type 0 where
  pub name_key : keys.names.key ≡ take 16 file
  pub salt : keys.names.salt ≡ take 32 (drop 32 file)
  pub payloads : (n : ℕ) → length file ≡ 64 + 16 * n → keys.payloads ≡ payload_keys file n

-- A session in the middle of a script: what it heard, the last first; the bytes of each side that are no whole frame yet; and where
-- it stands.
pub record Scene : Type 0 where
  pub heard : List Heard
  pub client_rest : List ℕ
  pub store_rest : List ℕ
  pub stand : Stand

-- before the first event
abbrev pub opening : Scene
opening = record { heard = []; client_rest = []; store_rest = []; stand = fresh }

-- the session is that of connection 1 in boot 0
abbrev pub RanHere : EntryKeys → List Heard → Stand → Type 0
RanHere keys heard stand = Ran keys 0 1 heard stand

-- The session hears the frames of its client that are whole with the piece.
pub record HearsClient (keys : EntryKeys) (old : Scene) (piece : List ℕ) (new : Scene) : Type 0 where
  pub more : List Heard
  pub of_client : AreOfClient more
  pub heard : new.heard ≡ more ++ old.heard
  pub ran : RanHere keys new.heard new.stand
  pub side : IsSide client_limit (client_frames more) (bad_of_client more) (EndsAtClient new.stand.ending more) (old.client_rest ++ piece)
  pub client_rest : new.client_rest ≡ side.rest
  pub store_rest : new.store_rest ≡ old.store_rest

-- The session hears the frames of the store that are whole with the piece.
pub record HearsStore (keys : EntryKeys) (old : Scene) (piece : List ℕ) (new : Scene) : Type 0 where
  pub more : List Heard
  pub of_store : AreOfStore more
  pub heard : new.heard ≡ more ++ old.heard
  pub ran : RanHere keys new.heard new.stand
  pub side : IsSide store_limit (store_frames more) (bad_of_store more) (EndsAtStore new.stand.ending more) (old.store_rest ++ piece)
  pub client_rest : new.client_rest ≡ old.client_rest
  pub store_rest : new.store_rest ≡ side.rest

-- the session is ended
abbrev pub ended : Scene → Ending → Scene
ended old ending = record old { heard = given ending ∷ old.heard; stand = ends old.stand ending }

-- where the session goes on, an event leads here
abbrev pub Leads : EntryKeys → Scene → HostileEvent → Scene → Type 0
Leads keys old (Client piece) new = HearsClient keys old piece new
Leads keys old (Store piece) new = HearsStore keys old piece new
Leads keys old ClientEnd new = new ≡ ended old endings.ClientEnd
Leads keys old StoreEnd new = new ≡ ended old endings.StoreEnd

-- after an ending nothing changes
abbrev pub LeadsIf : EntryKeys → Option Ending → Scene → HostileEvent → Scene → Type 0
LeadsIf keys None old event new = Leads keys old event new
LeadsIf keys (Some ending) old event new = new ≡ old

-- these events lead from the one scene to the other
abbrev pub Plays : EntryKeys → Scene → List HostileEvent → Scene → Type 0
Plays keys old [] new = new ≡ old
Plays keys old (event ∷ events) new = (next : Scene) × LeadsIf keys old.stand.ending old event next × Plays keys next events new

-- what is printed of a session: why it ended, what its client received, what was handed to the store, and what was found
abbrev pub outcome_text : Option Ending → List ℕ → List ℕ → List Finding → List ℕ
outcome_text ending received handed findings =
    field (codes "ending ") [] ++ session_text ending ++ line_feed
    ++ line (codes "received ") (bytes_text received)
    ++ line (codes "handed ") (bytes_text handed)
    ++ line (codes "findings ") (decimal (length findings))
    ++ findings_text findings

-- of one that stands here
abbrev pub hostile_text : Stand → List ℕ
hostile_text s = outcome_text s.ending (bytes_of s.down) (bytes_of s.up) s.findings

-- the text is what these events print under keys
pub record PrintsHostile (keys : EntryKeys) (events : List HostileEvent) (text : List ℕ) : Type 0 where
  pub scene : Scene
  pub plays : Plays keys opening events scene
  pub text_is : text ≡ hostile_text scene.stand
