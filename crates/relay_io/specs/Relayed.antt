-- What a relay comes to.
use Rattle.std.specs.Prelude.{◌≡◌, ◌⊎◌, ◌↔◌, ◌≤◌, ◌<◌, ℕ, List, [], ◌∷◌, ◌++◌, length, Option, Some, None, IfSome}
use Rattle.jute_core.specs.Faults.{Rose, Wrote, WroteFront}
use Rattle.reply_rewrite.specs.declared.finding.Finding.{Finding}
use Rattle.entry_session.specs.Stands.{Stand}
use Rattle.entry_session.specs.Sides.{bytes_of}
use Rattle.entry_session.specs.declared.ending.Ending.{Ending}
use Rattle.entry_session.specs.declared.ending.Ending.TheVariants as endings
use Rattle.relay_io.specs.declared.duo.DuoEvent.{DuoEvent}
use Rattle.relay_io.specs.declared.duo.DuoEvent.TheVariants as events
use Rattle.relay_io.specs.Sides.{Sides, Grew}
use Rattle.relay_io.specs.Scenes.{Line, Scene, opening, Passes, LeadsInPart}

-- a board was told these findings, in order
abbrev pub TellsAll : {B : Type 0} → (B → Finding → B → Type 0) → B → List Finding → B → Type 0
TellsAll Told before [] after = after ≡ before
TellsAll {B} Told before (finding ∷ more) after = (next : B) × Told before finding next × TellsAll Told next more after

-- the store took what the session handed up
abbrev pub StoreTook : Sides → Sides → Stand → Type 0
StoreTook old new s = Wrote old.to_store new.to_store (bytes_of s.up)

-- the client took what the session handed down
abbrev pub ClientTook : Sides → Sides → Stand → Type 0
ClientTook old new s = Wrote old.to_client new.to_client (bytes_of s.down)

-- a write to the store failed, which took a front of what the session handed up
pub record StoreCut (old new : Sides) (s : Stand) : Type 0 where
  pub rose : Rose old.store_faults new.store_faults
  pub front : WroteFront old.to_store new.to_store (bytes_of s.up)

-- a write to the client failed, which took a front of what the session handed down
pub record ClientCut (old new : Sides) (s : Stand) : Type 0 where
  pub rose : Rose old.client_faults new.client_faults
  pub front : WroteFront old.to_client new.to_client (bytes_of s.down)

-- the last of these events
abbrev pub IsLast : DuoEvent → List DuoEvent → Type 0
IsLast event heard = (before : List DuoEvent) × (heard ≡ before ++ event ∷ [])

-- Where the events led the session: through all of them; or, where memory was wanting, through all but the last, and that one in part.
pub data Came (line : Line) (heard : List DuoEvent) (scene : Scene) : Ending → Type 0 where
  through_all : (e : Ending) → Passes line opening heard scene → Came line heard scene e
  in_part : (before : List DuoEvent) (event : DuoEvent) (mid : Scene) → heard ≡ before ++ event ∷ [] → Passes line opening before mid → mid.stand.ending ≡ None → LeadsInPart line mid event scene
      → Came line heard scene endings.Memory

-- Why a relay ended after these events, where its session stands here then, and what each side had taken of what the session handed over.
pub data Ends (turns : ℕ) (old new : Sides) (heard : List DuoEvent) (s : Stand) : Ending → Type 0 where
  -- the session had ended, which is answered also where the write behind its ending failed
  ended_so : (e : Ending) → s.ending ≡ Some e → StoreTook old new s ⊎ StoreCut old new s → ClientTook old new s ⊎ ClientCut old new s → Ends turns old new heard s e
  -- a write failed
  store_unwritten : s.ending ≡ None → StoreCut old new s → ClientTook old new s → Ends turns old new heard s endings.StoreFault
  client_unwritten : s.ending ≡ None → StoreTook old new s → ClientCut old new s → Ends turns old new heard s endings.ClientFault
  -- a side failed where the next event was to be heard
  client_unheard : s.ending ≡ None → length heard < turns → Rose old.client_faults new.client_faults → StoreTook old new s → ClientTook old new s → Ends turns old new heard s endings.ClientFault
  store_unheard : s.ending ≡ None → length heard < turns → Rose old.store_faults new.store_faults → StoreTook old new s → ClientTook old new s → Ends turns old new heard s endings.StoreFault
  -- so many events were heard, and nothing else ended the relay
  turns_used : s.ending ≡ None → length heard ≡ turns → StoreTook old new s → ClientTook old new s → Ends turns old new heard s endings.Turns
  -- there was no memory
  out_of_memory : s.ending ≡ None → StoreTook old new s ⊎ StoreCut old new s → ClientTook old new s → Ends turns old new heard s endings.Memory

-- what may be answered where all turns are used and the session goes on: that, unless a write failed or there was no memory
abbrev pub AnswersSpent : Sides → Sides → Stand → Ending → Type 0
AnswersSpent old new s endings.Turns = Unit {0}
AnswersSpent old new s endings.StoreFault = StoreCut old new s
AnswersSpent old new s endings.ClientFault = ClientCut old new s
AnswersSpent old new s endings.Memory = Unit {0}
AnswersSpent old new s e = ⊥

-- What a relay of so many turns came to: from what its duo and its board were before it, to what they are after it, with its answer.
pub record Relayed {B : Type 0} (line : Line) (turns : ℕ) (old new : Sides) (Told : B → Finding → B → Type 0) (before after : B) (answer : Ending) : Type 0 where
  -- the events that it heard, and where they led its session
  pub heard : List DuoEvent
  pub scene : Scene
  pub grew : Grew old.events new.events heard
  pub within : length heard ≤ turns
  pub came : Came line heard scene answer
  -- what was written on each side, and why it ended
  pub ends : Ends turns old new heard scene.stand answer
  -- the board was told the session's findings, in order
  pub told : TellsAll Told before scene.stand.findings after
  -- each ending exactly at its cause
  pub ended_first : (e : Ending) → scene.stand.ending ≡ Some e → answer ≡ e
  pub client_end : (answer ≡ endings.ClientEnd) ↔ IsLast events.ClientEnd heard
  pub store_end : (answer ≡ endings.StoreEnd) ↔ IsLast events.StoreEnd heard
  pub client_fault : answer ≡ endings.ClientFault → Rose old.client_faults new.client_faults
  pub store_fault : answer ≡ endings.StoreFault → Rose old.store_faults new.store_faults
  pub all_turns : answer ≡ endings.Turns → (length heard ≡ turns) × (scene.stand.ending ≡ None)
  pub spent : length heard ≡ turns → scene.stand.ending ≡ None → AnswersSpent old new scene.stand answer
  -- the counts never fell
  pub client_later : old.client_faults ≤ new.client_faults
  pub store_later : old.store_faults ≤ new.store_faults
