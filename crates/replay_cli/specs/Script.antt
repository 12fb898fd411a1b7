-- The grammar of replay scripts: a text and its list of events.
use Rattle.std.specs.Prelude.{◌≡◌, ℕ, ℤ, pos, ◌<◌, ◌≤◌, ◌^◌, List, [], ◌∷◌, ◌++◌, length, codes}
use Rattle.std.specs.Fmt.{decimal, signed_decimal}
use Rattle.hex.specs.Hex.{encode_lower}
use Rattle.replay_cli.specs.Lines.{lines, spaced, IsPiece, counted, SaysBy, IsFirstBadBy}
use Rattle.replay_cli.specs.declared.script.Event.{Event}
use Rattle.replay_cli.specs.declared.script.Event.TheVariants.{Open, Send, Up, Down, Cut, Time, Tick, Drain}

-- the line of an event: words parted by one space, numbers in decimal digits, bytes in lower-case hex
unfoldable pub event_text : Event → List ℕ
event_text Open = codes "open"
event_text (Send connection bytes) = codes "send " ++ spaced (decimal connection) (encode_lower bytes)
event_text (Up connection first second) = codes "up " ++ spaced (decimal connection) (spaced (decimal first) (decimal second))
event_text (Down connection limit) = codes "down " ++ spaced (decimal connection) (decimal limit)
event_text (Cut connection) = codes "cut " ++ decimal connection
event_text (Time now) = codes "time " ++ signed_decimal now
event_text Tick = codes "tick"
event_text Drain = codes "drain"

-- a connection that was opened above
abbrev pub IsOpen : ℕ → ℕ → Type 0
IsOpen opened connection = (0 < connection) × (connection ≤ opened)

abbrev pub IsCount : ℕ → Type 0
IsCount n = n < 2 ^ 32

-- a time in milliseconds
abbrev pub IsTime : ℤ → Type 0
IsTime now = (n : ℕ) × (now ≡ pos n) × (n < 4611686018427387904)

-- an event that may stand where so many connections were opened above
abbrev pub MayStand : ℕ → Event → Type 0
MayStand opened Open = opened < 4096
MayStand opened (Send connection bytes) = IsOpen opened connection × IsPiece bytes
MayStand opened (Up connection first second) = IsOpen opened connection × IsCount first × IsCount second
MayStand opened (Down connection limit) = IsOpen opened connection × IsCount limit
MayStand opened (Cut connection) = IsOpen opened connection
MayStand opened (Time now) = IsTime now
MayStand opened Tick = Unit {0}
MayStand opened Drain = Unit {0}

-- how many connections it opens
abbrev pub opened_by : Event → ℕ
opened_by Open = 1
opened_by event = 0

-- these lines say these events, after so many opened connections
abbrev pub Says : ℕ → List (List ℕ) → List Event → Type 0
Says opened lines events = SaysBy event_text MayStand opened_by opened lines events

-- the script is of the grammar, and these are its events
abbrev pub IsScript : List ℕ → List Event → Type 0
IsScript script events = Says 0 (lines script) events

-- the script is outside the grammar, and this is its first line that fits no event where it stands
abbrev pub IsFirstBadLine : List ℕ → ℕ → Type 0
IsFirstBadLine script number = IsFirstBadBy event_text MayStand opened_by script number

-- how many connections the events open
abbrev pub opened : List Event → ℕ
opened events = counted opened_by events
