-- A line in memory.
use Rattle.std.specs.Prelude.{◌≡◌, ◌<◌, ◌+◌, ◌^◌, ℕ, ℤ, pos, min, Bool, true, false, IsFalse, if◌then◌else◌, nat_lt, List, [], ◌∷◌, ◌++◌, length, take, drop, filter, Option, Some, None, Result, Ok, Err}
use Rattle.relay_io.specs.Lines.{LineTold, line_events}
use Rattle.relay_io.specs.MemoryDuos.{one_more, is_listed}
use Rattle.relay_io.specs.declared.line.LineEvent.{LineEvent}
use Rattle.relay_io.specs.declared.line.LineEvent.TheVariants.{Bytes, End, Idle}
use Rattle.relay_io.specs.declared.line.LineWhat.{LineWhat}
use Rattle.relay_io.specs.declared.line.LineWhat.TheVariants as answers

-- The events that were not heard yet and those that were, the bytes written, the time of the event that was heard last, the calls so
-- far, the numbers of the calls that fail, and the counts of faults: of all, and of those for want of memory.
pub record LineState : Type 0 where
  pub left : List LineEvent
  pub heard : List LineEvent
  pub written : List ℕ
  pub last : ℤ
  pub calls : ℕ
  pub fails : List ℕ
  pub faults : ℕ
  pub short : ℕ

-- it tells all that it has
abbrev pub line_told : LineState → LineTold
line_told l = record { events = Some l.heard; written = Some l.written; faults = l.faults }

abbrev pub time_of : LineEvent → ℤ
time_of (Bytes at bytes) = at
time_of (End at) = at
time_of (Idle at) = at

-- all events have bytes, but those that are for bytes and have none
abbrev pub gives_bytes : LineEvent → Bool
gives_bytes (Bytes at bytes) = nat_lt 0 (length bytes)
gives_bytes event = true

abbrev pub given : List LineEvent → List LineEvent
given events = filter gives_bytes events

-- the event that comes: behind the last one an end, at this time
abbrev pub coming_at : ℤ → List LineEvent → LineEvent
coming_at last [] = End last
coming_at last (event ∷ events) = event

-- the end comes at the time of the event that was heard last, or at 0 where there was none
abbrev pub next_of : LineState → LineEvent
next_of l = coming_at l.last l.left

-- as much of an event as a buffer of so many bytes takes
abbrev pub first_of : ℕ → LineEvent → LineEvent
first_of room (Bytes at bytes) = Bytes at (take room bytes)
first_of room event = event

-- and what is left of it, if anything
abbrev pub others_of : ℕ → LineEvent → Option LineEvent
others_of room (Bytes at bytes) = if nat_lt room (length bytes) then Some (Bytes at (drop room bytes)) else None
others_of room event = None

abbrev pub with_others : Option LineEvent → List LineEvent → List LineEvent
with_others None events = events
with_others (Some event) events = event ∷ events

abbrev pub left_behind : ℕ → List LineEvent → List LineEvent
left_behind room [] = []
left_behind room (event ∷ events) = with_others (others_of room event) events

-- what a call that fails tells: that memory was wanting, where the call is not listed
abbrev pub short_behind : LineState → ℕ
short_behind l = if is_listed l.fails l.calls then l.short else one_more l.short

-- the event that is to come was heard at its time, or as much of it as the buffer takes
pub record HearsAt (room : ℕ) (old new : LineState) (buffer : List ℕ) (at : ℤ) (what : LineWhat) : Type 0 where
  pub time : at ≡ time_of (next_of old)
  pub told : line_events at what buffer ≡ first_of room (next_of old) ∷ []
  pub state : new ≡ record old { left = left_behind room old.left; heard = old.heard ++ first_of room (next_of old) ∷ []; last = at }

-- What waiting does to a line in memory: a call that is listed fails, another one only for want of memory, and the event comes later.
abbrev pub WaitedAt : ℕ → LineState → LineState → List ℕ → ℤ → LineWhat → Type 0
WaitedAt room old new buffer at answers.Failed = (at ≡ old.last)
    × (new ≡ record old { calls = one_more old.calls; faults = one_more old.faults; short = short_behind old })
WaitedAt room old new buffer at what = IsFalse (is_listed old.fails old.calls)
    × HearsAt room (record old { calls = one_more old.calls }) new buffer at what

-- What a write does: a call that is listed fails, another one only for want of memory, and neither then writes anything.
abbrev pub WroteLine : {T E : Type 0} → List ℕ → LineState → LineState → Result T E → Type 0
WroteLine piece old new (Ok _) = IsFalse (is_listed old.fails old.calls) × (new ≡ record old { written = old.written ++ piece; calls = one_more old.calls })
WroteLine piece old new (Err _) = new ≡ record old { calls = one_more old.calls; faults = one_more old.faults; short = short_behind old }
