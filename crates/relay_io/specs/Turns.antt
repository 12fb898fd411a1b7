-- How a relay goes on, event by event.
use Rattle.std.specs.Prelude.{◌≡◌, ◌⊎◌, ◌+◌, ◌≤◌, ℕ, List, [], ◌++◌, length, Result, Ok, Err, Option, Some, None}
use Rattle.jute_core.specs.Faults.{Rose, Wrote, WroteFront}
use Rattle.reply_rewrite.specs.declared.finding.Finding.{Finding}
use Rattle.entry_session.specs.Kept.{Kept, At}
use Rattle.entry_session.specs.Sides.{bytes_of}
use Rattle.entry_session.specs.declared.ending.Ending.{Ending}
use Rattle.entry_session.specs.declared.ending.Ending.TheVariants as endings
use Rattle.relay_io.specs.declared.duo.DuoEvent.{DuoEvent}
use Rattle.relay_io.specs.Sides.{Sides, Grew, ClientStays, StoreStays}
use Rattle.relay_io.specs.Scenes.{Line, Scene, opening, Passes, HearsClient, HearsStore, HearsFirst}
use Rattle.relay_io.specs.Relayed.{TellsAll, StoreTook, ClientTook, Relayed}

-- The session is that of the line, and stands in this scene.
pub record IsAt (line : Line) (scene : Scene) (kept : Kept) : Type 0 where
  pub keys : kept.going.keys ≡ line.keys
  pub boot : kept.going.ivs.boot ≡ line.boot
  pub connection : kept.going.ivs.connection ≡ line.connection
  pub at : At kept scene.heard scene.client_rest scene.store_rest scene.stand

-- so many events were heard, and the relay goes on
pub record SoFar {B : Type 0} (line : Line) (old now : Sides) (Told : B → Finding → B → Type 0) (before board : B) (count : ℕ) (kept : Kept) : Type 0 where
  pub heard : List DuoEvent
  pub scene : Scene
  pub counted : length heard ≡ count
  pub passes : Passes line opening heard scene
  pub goes_on : scene.stand.ending ≡ None
  pub at : IsAt line scene kept
  pub grew : Grew old.events now.events heard
  pub store : StoreTook old now scene.stand
  pub client : ClientTook old now scene.stand
  pub told : TellsAll Told before scene.stand.findings board
  pub client_later : old.client_faults ≤ now.client_faults
  pub store_later : old.store_faults ≤ now.store_faults

-- after one more turn it goes on, or it has come to its end
abbrev pub After : {B T : Type 0} → Line → ℕ → Sides → Sides → (B → Finding → B → Type 0) → B → B → ℕ → Kept → Result T Ending → Type 0
After line turns old new Told before board count kept (Ok _) = SoFar line old new Told before board (count + 1) kept
After line turns old new Told before board count kept (Err e) = Relayed line turns old new Told before board e

-- the session gained these bodies for the store, and nothing for the client
pub record GainsUp (scene next : Scene) (gained : List (List ℕ)) : Type 0 where
  pub up : next.stand.up ≡ scene.stand.up ++ gained
  pub down : next.stand.down ≡ scene.stand.down
  pub findings : next.stand.findings ≡ scene.stand.findings

-- the session gained these bodies for the client and these findings, and nothing for the store
pub record GainsDown (scene next : Scene) (gained : List (List ℕ)) (found : List Finding) : Type 0 where
  pub up : next.stand.up ≡ scene.stand.up
  pub down : next.stand.down ≡ scene.stand.down ++ gained
  pub findings : next.stand.findings ≡ scene.stand.findings ++ found

-- bytes were written to the store, or a write of them failed
abbrev pub ToStore : Sides → Sides → List (List ℕ) → Type 0
ToStore old new gained = Wrote old.to_store new.to_store (bytes_of gained)

pub record ToStoreFront (old new : Sides) (gained : List (List ℕ)) : Type 0 where
  pub rose : Rose old.store_faults new.store_faults
  pub front : WroteFront old.to_store new.to_store (bytes_of gained)

-- the same of the client
abbrev pub ToClient : Sides → Sides → List (List ℕ) → Type 0
ToClient old new gained = Wrote old.to_client new.to_client (bytes_of gained)

pub record ToClientFront (old new : Sides) (gained : List (List ℕ)) : Type 0 where
  pub rose : Rose old.client_faults new.client_faults
  pub front : WroteFront old.to_client new.to_client (bytes_of gained)

-- A piece of the client ended the relay so.
pub data StopsUp (line : Line) (scene : Scene) (piece : List ℕ) (old new : Sides) : Ending → Type 0 where
  up_ended : (e : Ending) (next : Scene) (gained : List (List ℕ)) → HearsClient line scene piece next → next.stand.ending ≡ Some e → GainsUp scene next gained
      → ToStore old new gained ⊎ ToStoreFront old new gained → StopsUp line scene piece old new e
  up_unwritten : (next : Scene) (gained : List (List ℕ)) → HearsClient line scene piece next → next.stand.ending ≡ None → GainsUp scene next gained
      → ToStoreFront old new gained → StopsUp line scene piece old new endings.StoreFault
  up_in_part : (next : Scene) (gained : List (List ℕ)) → HearsFirst line scene piece next → GainsUp scene next gained
      → ToStore old new gained ⊎ ToStoreFront old new gained → StopsUp line scene piece old new endings.Memory

-- A piece of the client went up, and the session goes on.
pub record GoesUp (line : Line) (scene : Scene) (piece : List ℕ) (old new : Sides) (kept : Kept) : Type 0 where
  pub next : Scene
  pub gained : List (List ℕ)
  pub hears : HearsClient line scene piece next
  pub goes_on : next.stand.ending ≡ None
  pub at : IsAt line next kept
  pub gains : GainsUp scene next gained
  pub written : ToStore old new gained

abbrev pub WentUp : {T : Type 0} → Line → Scene → List ℕ → Sides → Sides → Kept → Result T Ending → Type 0
WentUp line scene piece old new kept (Ok _) = GoesUp line scene piece old new kept
WentUp line scene piece old new kept (Err e) = StopsUp line scene piece old new e

-- A piece of the store ended the relay so.
pub data StopsDown {B : Type 0} (line : Line) (scene : Scene) (piece : List ℕ) (old new : Sides) (Told : B → Finding → B → Type 0) (before after : B) : Ending → Type 0 where
  down_ended : (e : Ending) (next : Scene) (gained : List (List ℕ)) (found : List Finding) → HearsStore line scene piece next → next.stand.ending ≡ Some e → GainsDown scene next gained found
      → ToClient old new gained ⊎ ToClientFront old new gained → TellsAll Told before found after → StopsDown line scene piece old new Told before after e
  down_unwritten : (next : Scene) (gained : List (List ℕ)) (found : List Finding) → HearsStore line scene piece next → next.stand.ending ≡ None → GainsDown scene next gained found
      → ToClientFront old new gained → TellsAll Told before found after → StopsDown line scene piece old new Told before after endings.ClientFault
  down_in_part : Wrote old.to_client new.to_client [] → after ≡ before → StopsDown line scene piece old new Told before after endings.Memory

-- A piece of the store went down, and the session goes on.
pub record GoesDown {B : Type 0} (line : Line) (scene : Scene) (piece : List ℕ) (old new : Sides) (Told : B → Finding → B → Type 0) (before after : B) (kept : Kept) : Type 0 where
  pub next : Scene
  pub gained : List (List ℕ)
  pub found : List Finding
  pub hears : HearsStore line scene piece next
  pub goes_on : next.stand.ending ≡ None
  pub at : IsAt line next kept
  pub gains : GainsDown scene next gained found
  pub written : ToClient old new gained
  pub told : TellsAll Told before found after

abbrev pub WentDown : {B T : Type 0} → Line → Scene → List ℕ → Sides → Sides → (B → Finding → B → Type 0) → B → B → Kept → Result T Ending → Type 0
WentDown line scene piece old new Told before after kept (Ok _) = GoesDown line scene piece old new Told before after kept
WentDown line scene piece old new Told before after kept (Err e) = StopsDown line scene piece old new Told before after e
