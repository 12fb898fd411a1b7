-- A duo in memory.
use Rattle.std.specs.Prelude.{◌≡◌, ◌⊎◌, ◌+◌, ◌-◌, ◌^◌, ℕ, min, Bool, true, false, IsTrue, IsFalse, if◌then◌else◌, ◌==◌, nat_lt, List, [], ◌∷◌, ◌++◌, length, take, drop, filter, Option, Some, None, Result, Ok, Err}
use Rattle.std.specs.List.{list_any, list_all}
use Rattle.relay_io.specs.declared.duo.DuoEvent.{DuoEvent}
use Rattle.relay_io.specs.declared.duo.DuoEvent.TheVariants.{Client, Store, ClientEnd, StoreEnd, Idle}
use Rattle.relay_io.specs.declared.duo.Heard.{Heard}
use Rattle.relay_io.specs.declared.duo.Heard.TheVariants as answers
use Rattle.relay_io.specs.Sides.{Sides, told_by}

-- The events that were not heard yet and those that were, the bytes written on each side, the calls so far, the numbers of the
-- calls that fail, and the counts of faults: of each side, and of those for want of memory.
pub record DuoState : Type 0 where
  pub left : List DuoEvent
  pub heard : List DuoEvent
  pub to_client : List ℕ
  pub to_store : List ℕ
  pub calls : ℕ
  pub fails : List ℕ
  pub client_faults : ℕ
  pub store_faults : ℕ
  pub short : ℕ

-- it tells all that it has
abbrev pub told_of : DuoState → Sides
told_of d = record { events = Some d.heard; to_client = Some d.to_client; to_store = Some d.to_store; client_faults = d.client_faults; store_faults = d.store_faults }

-- the count behind one more, which stops at the last value of a u64
abbrev pub one_more : ℕ → ℕ
one_more count = min (count + 1) (2 ^ 64 - 1)

-- whether the call of this number fails
abbrev pub is_listed : List ℕ → ℕ → Bool
is_listed fails call = list_any (λ listed. listed == call) fails

-- all events have bytes, but those that are for bytes and have none
abbrev pub has_bytes : DuoEvent → Bool
has_bytes (Client bytes) = nat_lt 0 (length bytes)
has_bytes (Store bytes) = nat_lt 0 (length bytes)
has_bytes event = true

abbrev pub filled : List DuoEvent → List DuoEvent
filled events = filter has_bytes events

-- the event that is given: after the last one the client's end
abbrev pub coming : List DuoEvent → DuoEvent
coming [] = ClientEnd
coming (event ∷ events) = event

-- as much of an event as a buffer of so many bytes takes
abbrev pub front_of : ℕ → DuoEvent → DuoEvent
front_of room (Client bytes) = Client (take room bytes)
front_of room (Store bytes) = Store (take room bytes)
front_of room event = event

-- and what is left of it, if anything
abbrev pub rest_of : ℕ → DuoEvent → Option DuoEvent
rest_of room (Client bytes) = if nat_lt room (length bytes) then Some (Client (drop room bytes)) else None
rest_of room (Store bytes) = if nat_lt room (length bytes) then Some (Store (drop room bytes)) else None
rest_of room event = None

abbrev pub with_rest : Option DuoEvent → List DuoEvent → List DuoEvent
with_rest None events = events
with_rest (Some event) events = event ∷ events

abbrev pub left_after : ℕ → List DuoEvent → List DuoEvent
left_after room [] = []
left_after room (event ∷ events) = with_rest (rest_of room event) events

-- the event is the store's; all others count as the client's
abbrev pub is_of_store : DuoEvent → Bool
is_of_store (Store bytes) = true
is_of_store StoreEnd = true
is_of_store event = false

-- what is told of a call that fails: that memory was wanting, where the call is not listed
abbrev pub short_after : DuoState → ℕ
short_after d = if is_listed d.fails d.calls then d.short else one_more d.short

-- the side of the event that is to come failed, and the event stays
abbrev pub Fails : DuoState → DuoState → Heard → Type 0
Fails old new answers.ClientFailed = IsFalse (is_of_store (coming old.left)) × (new ≡ record old { client_faults = one_more old.client_faults })
Fails old new answers.StoreFailed = IsTrue (is_of_store (coming old.left)) × (new ≡ record old { store_faults = one_more old.store_faults })
Fails old new answer = ⊥

-- the event that is to come was heard, or as much of it as the buffer takes
pub record Hears (room : ℕ) (old new : DuoState) (buffer : List ℕ) (answer : Heard) : Type 0 where
  pub told : told_by answer buffer ≡ front_of room (coming old.left) ∷ []
  pub state : new ≡ record old { left = left_after room old.left; heard = old.heard ++ front_of room (coming old.left) ∷ [] }

-- a call was counted, and for want of memory one more where it is not listed
abbrev pub counted : DuoState → DuoState
counted d = record d { calls = one_more d.calls; short = short_after d }

-- What waiting does to a duo in memory: a call that is listed fails on the side of the event that is to come, another one only for
-- want of memory, and the event comes later.
abbrev pub Waited : ℕ → DuoState → DuoState → List ℕ → Heard → Type 0
Waited room old new buffer answers.ClientFailed = Fails (counted old) new answers.ClientFailed
Waited room old new buffer answers.StoreFailed = Fails (counted old) new answers.StoreFailed
Waited room old new buffer answer = IsFalse (is_listed old.fails old.calls) × Hears room (record old { calls = one_more old.calls }) new buffer answer

-- What a write does: a call that is listed fails, another one only for want of memory, and neither then writes anything.
abbrev pub WroteClient : {T E : Type 0} → List ℕ → DuoState → DuoState → Result T E → Type 0
WroteClient piece old new (Ok _) = IsFalse (is_listed old.fails old.calls) × (new ≡ record old { to_client = old.to_client ++ piece; calls = one_more old.calls })
WroteClient piece old new (Err _) = new ≡ record old { calls = one_more old.calls; client_faults = one_more old.client_faults; short = short_after old }

abbrev pub WroteStore : {T E : Type 0} → List ℕ → DuoState → DuoState → Result T E → Type 0
WroteStore piece old new (Ok _) = IsFalse (is_listed old.fails old.calls) × (new ≡ record old { to_store = old.to_store ++ piece; calls = one_more old.calls })
WroteStore piece old new (Err _) = new ≡ record old { calls = one_more old.calls; store_faults = one_more old.store_faults; short = short_after old }
