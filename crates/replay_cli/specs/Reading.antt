-- How a script is read, line by line.
use Rattle.std.specs.Prelude.{◌≡◌, ◌≢◌, ◌⊎◌, ℕ, ◌≤◌, List, [], ◌∷◌, ◌++◌, Option, Some, None}
use Rattle.hex.specs.Hex.{encode_lower}
use Rattle.replay_cli.specs.declared.lines.NotScript.{NotScript}
use Rattle.replay_cli.specs.declared.lines.NotScript.TheVariants.{BadLine, Memory}
use Rattle.replay_cli.specs.declared.script.Event.{Event}
use Rattle.replay_cli.specs.declared.script.Reader.{Reader}
use Rattle.replay_cli.specs.Lines.{lines, IsPiece, IsSkipped, counted}
use Rattle.replay_cli.specs.Script.{event_text, MayStand, opened}

-- a text without a space
unfoldable pub HasNoSpace : List ℕ → Type 0
HasNoSpace [] = Unit {0}
HasNoSpace (b ∷ text) = (b ≢ 32) × HasNoSpace text

-- a text of an even, positive number of lower-case hex digits, and the bytes that it stands for
abbrev pub IsHex : List ℕ → List ℕ → Type 0
IsHex text bytes = (text ≡ encode_lower bytes) × IsPiece bytes

-- the lines after a first one
abbrev pub lines_after : Option (List ℕ) → List (List ℕ)
lines_after None = []
lines_after (Some rest) = lines rest

-- a line that says nothing, or one more event, which may stand there
abbrev pub TakesBy : {E : Type 0} → (E → List ℕ) → (ℕ → E → Type 0) → (E → ℕ) → List E → List ℕ → List E → Type 0
TakesBy {E = E} text may adds old line new = (IsSkipped line × (new ≡ old))
    ⊎ ((event : E) × (line ≡ text event) × may (counted adds old) event × (new ≡ old ++ event ∷ []))

-- no event may stand in this line, and it says something
abbrev pub RefusesBy : {E : Type 0} → (E → List ℕ) → (ℕ → E → Type 0) → (E → ℕ) → List E → List ℕ → Type 0
RefusesBy {E = E} text may adds events line = (IsSkipped line → ⊥) × ((event : E) → line ≡ text event → may (counted adds events) event → ⊥)

-- why a text is no script: the number of its first bad line
abbrev pub IsFaultOf : (ℕ → Type 0) → NotScript → Type 0
IsFaultOf IsFirstBad (BadLine line) = IsFirstBad line
IsFaultOf IsFirstBad Memory = Unit {0}

-- the connections that the events open are counted, and are not too many
abbrev pub IsCounted : Reader → Type 0
IsCounted r = (r.opened ≡ opened r.events.items) × (r.opened ≤ 4096)

-- an event of one kind or another, by what its line is and where it may stand

abbrev pub IsEvent : List ℕ → ℕ → Event → Type 0
IsEvent text opened event = (text ≡ event_text event) × MayStand opened event
