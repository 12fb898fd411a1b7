-- What a line tells of its one side, a client of the store.
use Rattle.std.specs.Prelude.{◌≡◌, ◌≤◌, ◌<◌, ℕ, ℤ, List, [], ◌∷◌, ◌++◌, take, Option, Some, None, IfSome}
use Rattle.relay_io.specs.Sides.{HasRisen}
use Rattle.relay_io.specs.declared.line.LineEvent.{LineEvent}
use Rattle.relay_io.specs.declared.line.LineEvent.TheVariants as events
use Rattle.relay_io.specs.declared.line.LineHeard.{LineHeard}
use Rattle.relay_io.specs.declared.line.LineWhat.{LineWhat}
use Rattle.relay_io.specs.declared.line.LineWhat.TheVariants.{Bytes, End, Idle, Failed}

-- The events heard so far and the bytes written, where the line tells them; and how often it failed.
pub record LineTold : Type 0 where
  pub events : Option (List LineEvent)
  pub written : Option (List ℕ)
  pub faults : ℕ

-- a line that tells nothing but how often it failed
abbrev pub silent : ℕ → LineTold
silent faults = record { events = None; written = None; faults = faults }

-- bytes that were heard are at least one, and at most as many as the buffer has
abbrev pub FitsIn : ℕ → LineWhat → Type 0
FitsIn room (Bytes count) = (0 < count) × (count ≤ room)
FitsIn room what = Unit {0}

-- The events that an answer tells: bytes are the first of the buffer, and a failure is no event.
abbrev pub line_events : ℤ → LineWhat → List ℕ → List LineEvent
line_events at (Bytes count) buffer = events.Bytes at (take count buffer) ∷ []
line_events at End buffer = events.End at ∷ []
line_events at Idle buffer = events.Idle at ∷ []
line_events at Failed buffer = []

-- where a line tells its events, these came behind them
abbrev pub GrewBy : Option (List LineEvent) → Option (List LineEvent) → List LineEvent → Type 0
GrewBy before after more = IfSome before (λ heard. after ≡ Some (heard ++ more))

-- a line fails only where its count rose
abbrev pub LineCounts : LineWhat → LineTold → LineTold → Type 0
LineCounts Failed old new = HasRisen old.faults new.faults
LineCounts what old new = new.faults ≡ old.faults
