-- What a duo tells of its two sides.
use Rattle.std.specs.Prelude.{◌≡◌, ◌≤◌, ◌<◌, ℕ, List, [], ◌∷◌, ◌++◌, take, Option, Some, None, IfSome}
use Rattle.jute_core.specs.Faults.{Rose}
use Rattle.relay_io.specs.declared.duo.DuoEvent.{DuoEvent}
use Rattle.relay_io.specs.declared.duo.DuoEvent.TheVariants as events
use Rattle.relay_io.specs.declared.duo.Heard.{Heard}
use Rattle.relay_io.specs.declared.duo.Heard.TheVariants.{Client, Store, ClientEnd, StoreEnd, Idle, ClientFailed, StoreFailed}

-- The events heard so far and the bytes written on each side, where the duo tells them; and how often each side failed.
pub record Sides : Type 0 where
  pub events : Option (List DuoEvent)
  pub to_client : Option (List ℕ)
  pub to_store : Option (List ℕ)
  pub client_faults : ℕ
  pub store_faults : ℕ

-- a duo that tells nothing but how often its sides failed
abbrev pub untold : ℕ → ℕ → Sides
untold client store = record { events = None; to_client = None; to_store = None; client_faults = client; store_faults = store }

-- bytes that were heard are at least one, and at most as many as the buffer has
abbrev pub IsWithin : ℕ → Heard → Type 0
IsWithin room (Client count) = (0 < count) × (count ≤ room)
IsWithin room (Store count) = (0 < count) × (count ≤ room)
IsWithin room heard = Unit {0}

-- The events that an answer tells: bytes are the first of the buffer, and a failure is no event.
abbrev pub told_by : Heard → List ℕ → List DuoEvent
told_by (Client count) buffer = events.Client (take count buffer) ∷ []
told_by (Store count) buffer = events.Store (take count buffer) ∷ []
told_by ClientEnd buffer = events.ClientEnd ∷ []
told_by StoreEnd buffer = events.StoreEnd ∷ []
told_by Idle buffer = events.Idle ∷ []
told_by ClientFailed buffer = []
told_by StoreFailed buffer = []

-- where a duo tells its events, these came behind them
abbrev pub Grew : Option (List DuoEvent) → Option (List DuoEvent) → List DuoEvent → Type 0
Grew before after more = IfSome before (λ heard. after ≡ Some (heard ++ more))

-- a count rose, or it stands at its last value, and it did not fall
pub record HasRisen (before now : ℕ) : Type 0 where
  pub later : before ≤ now
  pub rose : Rose before now

-- A side fails only where its count rose. Every other count stays.
abbrev pub Counts : Heard → Sides → Sides → Type 0
Counts ClientFailed old new = HasRisen old.client_faults new.client_faults × (new.store_faults ≡ old.store_faults)
Counts StoreFailed old new = (new.client_faults ≡ old.client_faults) × HasRisen old.store_faults new.store_faults
Counts heard old new = (new.client_faults ≡ old.client_faults) × (new.store_faults ≡ old.store_faults)

-- nothing was written
pub record WritesNothing (old new : Sides) : Type 0 where
  pub to_client : new.to_client ≡ old.to_client
  pub to_store : new.to_store ≡ old.to_store

-- nothing was heard, and the client's side is as it was
pub record ClientStays (old new : Sides) : Type 0 where
  pub events : new.events ≡ old.events
  pub to_client : new.to_client ≡ old.to_client
  pub client_faults : new.client_faults ≡ old.client_faults

-- nothing was heard, and the store's side is as it was
pub record StoreStays (old new : Sides) : Type 0 where
  pub events : new.events ≡ old.events
  pub to_store : new.to_store ≡ old.to_store
  pub store_faults : new.store_faults ≡ old.store_faults
