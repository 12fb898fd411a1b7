-- What the commands print, and when they print nothing.
use Rattle.std.specs.Prelude.{◌≡◌, ℕ, ◌<◌, ◌≤◌, ◌⊎◌, List, length}
use Rattle.payload_seal.specs.Keys.{IsKeyFileSize}
use Rattle.payload_seal.specs.declared.keys.EntryKeys.{EntryKeys}
use Rattle.replay_cli.specs.Told.{Told, untold, missing, holds, Agrees}
use Rattle.replay_cli.specs.Words.{Words, word, IsReplay, IsHostile, IsShow, IsStress, IsKeyed, ReadsFiles}
use Rattle.replay_cli.specs.Show.{IsShown}
use Rattle.replay_cli.specs.Script.{IsScript, IsFirstBadLine}
use Rattle.replay_cli.specs.Worlds.{PrintsReplay}
use Rattle.replay_cli.specs.Summary.{PrintsStress}
use Rattle.replay_cli.specs.HostileScript.{IsHostileScript, IsFirstBadHostileLine}
use Rattle.replay_cli.specs.Hostile.{IsKeysOf, PrintsHostile}
use Rattle.replay_cli.specs.declared.hostile_script.HostileEvent.{HostileEvent}
use Rattle.replay_cli.specs.declared.script.Event.{Event}

-- the most bytes that a file may have
abbrev pub file_limit : ℕ
file_limit = 268435456

-- these bytes may be the file's, and are not more
abbrev pub MayHold : Told → List ℕ → Type 0
MayHold told bytes = Agrees told bytes × (length bytes ≤ file_limit)

-- the file has more bytes, where it is told
abbrev pub IsTooLong : Told → Type 0
IsTooLong untold = Unit {0}
IsTooLong missing = ⊥
IsTooLong (holds all) = file_limit < length all

-- a key file has 64 bytes, and 16 for each epoch after the first one, at most 255 times
abbrev pub IsKey : List ℕ → Type 0
IsKey key = IsKeyFileSize (length key)

-- the file may hold bytes that are none of this kind
abbrev pub IsOutside : Told → (List ℕ → Type 0) → Type 0
IsOutside told P = (bytes : List ℕ) × MayHold told bytes × (P bytes → ⊥)

-- it may hold bytes that are
abbrev pub MayBe : Told → (List ℕ → Type 0) → Type 0
MayBe told P = (bytes : List ℕ) × MayHold told bytes × P bytes

-- the text is what a replay of a key and a script in these files prints
pub record IsReplayText (key script : Told) (text : List ℕ) : Type 0 where
  pub key_bytes : List ℕ
  pub script_bytes : List ℕ
  pub keys : EntryKeys
  pub events : List Event
  pub key_held : MayHold key key_bytes
  pub is_key : IsKey key_bytes
  pub are_keys : IsKeysOf key_bytes keys
  pub script_held : MayHold script script_bytes
  pub is_script : IsScript script_bytes events
  pub prints : PrintsReplay keys events text

-- the text is what one session under the key prints over the events of the script
pub record IsHostileText (key script : Told) (text : List ℕ) : Type 0 where
  pub key_bytes : List ℕ
  pub script_bytes : List ℕ
  pub keys : EntryKeys
  pub events : List HostileEvent
  pub key_held : MayHold key key_bytes
  pub is_key : IsKey key_bytes
  pub are_keys : IsKeysOf key_bytes keys
  pub script_held : MayHold script script_bytes
  pub is_script : IsHostileScript script_bytes events
  pub prints : PrintsHostile keys events text

-- the text is what is shown of the file
pub record IsShownText (file : Told) (text : List ℕ) : Type 0 where
  pub bytes : List ℕ
  pub held : MayHold file bytes
  pub shown_is : IsShown bytes text

-- the text is what the command prints, where the files tell this of each name
abbrev pub Prints : Words → (List ℕ → Told) → List ℕ → Type 0
Prints words told text = (IsReplay words × IsReplayText (told (word words 1)) (told (word words 2)) text)
    ⊎ (IsHostile words × IsHostileText (told (word words 1)) (told (word words 2)) text)
    ⊎ (IsShow words × IsShownText (told (word words 1)) text)
    ⊎ ((seed sessions steps : ℕ) × IsStress words seed sessions steps × PrintsStress seed sessions steps text)

-- a file of a key and a script is too long: the key, or the script behind what may be a key
abbrev pub IsLongOf : (List ℕ → Told) → List ℕ → List ℕ → List ℕ → Type 0
IsLongOf told key script name = ((name ≡ key) ⊎ ((name ≡ script) × MayBe (told key) IsKey)) × IsTooLong (told name)

-- a file of the command is too long
abbrev pub HasLong : Words → (List ℕ → Told) → List ℕ → Type 0
HasLong words told name = (IsKeyed words × IsLongOf told (word words 1) (word words 2) name)
    ⊎ (IsShow words × (name ≡ word words 1) × IsTooLong (told name))

-- no bytes may be the file's: it has more, or there is none
abbrev pub HoldsNone : Told → Type 0
HoldsNone told = (bytes : List ℕ) → MayHold told bytes → ⊥

-- a file that the command comes to for certain holds none: its first, or the script behind what can only be a key
abbrev pub StopsAtFile : Words → (List ℕ → Told) → Type 0
StopsAtFile words told = (ReadsFiles words × HoldsNone (told (word words 1)))
    ⊎ (IsKeyed words × (IsOutside (told (word words 1)) IsKey → ⊥) × HoldsNone (told (word words 2)))

-- Malformed keys and scripts

-- the file may hold so many bytes, and no key file has as many
abbrev pub IsBadKey : Told → ℕ → Type 0
IsBadKey key size = MayBe key (λ bytes. (IsKey bytes → ⊥) × (size ≡ length bytes))

abbrev pub HasBadKey : Words → (List ℕ → Told) → ℕ → Type 0
HasBadKey words told size = IsKeyed words × IsBadKey (told (word words 1)) size

-- behind what may be a key the script may have its first line outside the grammar here
abbrev pub IsBadScript : (List ℕ → ℕ → Type 0) → Told → Told → ℕ → Type 0
IsBadScript IsFirstBad key script number = MayBe key IsKey × MayBe script (λ bytes. IsFirstBad bytes number)

-- the script of the command, by its own grammar
abbrev pub HasBadLine : Words → (List ℕ → Told) → ℕ → Type 0
HasBadLine words told number = (IsReplay words × IsBadScript IsFirstBadLine (told (word words 1)) (told (word words 2)) number)
    ⊎ (IsHostile words × IsBadScript IsFirstBadHostileLine (told (word words 1)) (told (word words 2)) number)

-- whatever the file may hold, it is none of this kind, and not too long
abbrev pub IsNever : Told → (List ℕ → Type 0) → Type 0
IsNever told P = (MayBe told P → ⊥) × (IsTooLong told → ⊥)

-- whatever the file may hold, it is of this kind
abbrev pub IsAlways : Told → (List ℕ → Type 0) → Type 0
IsAlways told P = (IsOutside told P → ⊥) × (IsTooLong told → ⊥)

-- the key can only be malformed
abbrev pub StopsAtKey : Words → (List ℕ → Told) → Type 0
StopsAtKey words told = IsKeyed words × IsNever (told (word words 1)) IsKey

abbrev pub IsOfReplay : List ℕ → Type 0
IsOfReplay script = (events : List Event) × IsScript script events

abbrev pub IsOfHostile : List ℕ → Type 0
IsOfHostile script = (events : List HostileEvent) × IsHostileScript script events

-- the key can only be one, and the script can only be outside the grammar
abbrev pub StopsAtLine : Words → (List ℕ → Told) → Type 0
StopsAtLine words told = IsAlways (told (word words 1)) IsKey
    × ((IsReplay words × IsNever (told (word words 2)) IsOfReplay) ⊎ (IsHostile words × IsNever (told (word words 2)) IsOfHostile))
