-- What files tell of what they hold.
use Rattle.std.specs.Prelude.{◌≡◌, ℕ, List}

-- of a name: nothing, that there is no such file, or its bytes
pub data Told : Type 0 where
  untold : Told
  missing : Told
  holds : List ℕ → Told

-- what is told agrees with these bytes
abbrev pub Agrees : Told → List ℕ → Type 0
Agrees untold bytes = Unit {0}
Agrees missing bytes = ⊥
Agrees (holds all) bytes = all ≡ bytes
