-- Texts of lines: each line says an event of a grammar, or nothing.
use Rattle.std.specs.Prelude.{◌≡◌, ◌⊎◌, ℕ, ◌+◌, ◌<◌, ◌==◌, List, [], ◌∷◌, ◌++◌, length}
use Rattle.std.specs.List.{slice_split}
use Rattle.hex.specs.Hex.{IsBytes}

-- lines end with a line feed, which the last may lack
abbrev pub lines : List ℕ → List (List ℕ)
lines script = slice_split (λ b. b == 10) script

-- a line that says nothing: it is empty, or a comment
abbrev pub IsSkipped : List ℕ → Type 0
IsSkipped text = (text ≡ []) ⊎ ((comment : List ℕ) × (text ≡ 35 ∷ comment))

-- two texts, parted by one space
abbrev pub spaced : List ℕ → List ℕ → List ℕ
spaced first rest = first ++ 32 ∷ rest

-- the bytes that hex digits in a line may stand for
abbrev pub IsPiece : List ℕ → Type 0
IsPiece bytes = (0 < length bytes) × IsBytes bytes

-- A grammar says three things of an event: its line, where it may stand, and what it adds to the number on which that depends.

-- what these events come to
abbrev pub counted : {E : Type 0} → (E → ℕ) → List E → ℕ
counted adds [] = 0
counted adds (event ∷ events) = adds event + counted adds events

-- these lines say these events, where this number was counted above
abbrev pub SaysBy : {E : Type 0} → (E → List ℕ) → (ℕ → E → Type 0) → (E → ℕ) → ℕ → List (List ℕ) → List E → Type 0
SaysBy text may adds count [] events = events ≡ []
SaysBy {E = E} text may adds count (line ∷ more) events = (IsSkipped line × SaysBy text may adds count more events)
    ⊎ ((event : E) × (rest : List E) × (events ≡ event ∷ rest) × (line ≡ text event) × may count event
    × SaysBy text may adds (count + adds event) more rest)

-- The line of this number, counted from 1, is the first that fits no event where it stands: those above it say events, or nothing.
pub record IsFirstBadBy {E : Type 0} (text : E → List ℕ) (may : ℕ → E → Type 0) (adds : E → ℕ) (script : List ℕ) (number : ℕ) : Type 0 where
  pub above : List (List ℕ)
  pub line : List ℕ
  pub below : List (List ℕ)
  pub events : List E
  pub cut : lines script ≡ above ++ line ∷ below
  pub number_is : number ≡ length above + 1
  pub said : SaysBy text may adds 0 above events
  pub not_skipped : IsSkipped line → ⊥
  pub not_said : (event : E) → line ≡ text event → may (counted adds events) event → ⊥
