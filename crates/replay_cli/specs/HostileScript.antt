-- The grammar of hostile scripts: a text and its list of events.
use Rattle.std.specs.Prelude.{◌≡◌, ℕ, List, ◌++◌, codes}
use Rattle.hex.specs.Hex.{encode_lower}
use Rattle.replay_cli.specs.Lines.{lines, IsPiece, SaysBy, IsFirstBadBy}
use Rattle.replay_cli.specs.declared.hostile_script.HostileEvent.{HostileEvent}
use Rattle.replay_cli.specs.declared.hostile_script.HostileEvent.TheVariants.{Client, Store, ClientEnd, StoreEnd}

-- the line of an event: bytes in lower-case hex
unfoldable pub hostile_event_text : HostileEvent → List ℕ
hostile_event_text (Client bytes) = codes "client " ++ encode_lower bytes
hostile_event_text (Store bytes) = codes "store " ++ encode_lower bytes
hostile_event_text ClientEnd = codes "client-end"
hostile_event_text StoreEnd = codes "store-end"

-- an event that may stand, wherever it is
abbrev pub MayStandAnywhere : ℕ → HostileEvent → Type 0
MayStandAnywhere count (Client bytes) = IsPiece bytes
MayStandAnywhere count (Store bytes) = IsPiece bytes
MayStandAnywhere count ClientEnd = Unit {0}
MayStandAnywhere count StoreEnd = Unit {0}

abbrev pub nothing : HostileEvent → ℕ
nothing event = 0

abbrev pub IsHostileEvent : List ℕ → HostileEvent → Type 0
IsHostileEvent line event = (line ≡ hostile_event_text event) × MayStandAnywhere 0 event

-- the line is a word, and bytes in lower-case hex
abbrev pub IsLineOf : List ℕ → List ℕ → List ℕ → Type 0
IsLineOf word line bytes = (line ≡ word ++ encode_lower bytes) × IsPiece bytes

-- the script is of the grammar, and these are its events
abbrev pub IsHostileScript : List ℕ → List HostileEvent → Type 0
IsHostileScript script events = SaysBy hostile_event_text MayStandAnywhere nothing 0 (lines script) events

-- the script is outside the grammar, and this is its first line that fits no event
abbrev pub IsFirstBadHostileLine : List ℕ → ℕ → Type 0
IsFirstBadHostileLine script number = IsFirstBadBy hostile_event_text MayStandAnywhere nothing script number
