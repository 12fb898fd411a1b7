-- What a store went through.
use Rattle.std.specs.Prelude.{◌≡◌, ℕ, ℤ, ◌+◌, ◌≤◌, ◌<◌, List, [], ◌∷◌, ◌++◌, length, replicate, Bool, true, Option, Some, None, is_some}
use Rattle.jute_core.specs.Jute.{long_bytes}
use Rattle.aes_block.specs.Aes.{Aes}
use Rattle.tree_state.specs.declared.message.Message.{Message}
use Rattle.tree_state.specs.Changes.{Naming}
use Rattle.tree_state.specs.State.{State, start}
use Rattle.tree_state.specs.Step.{Act, step}
use Rattle.store_side.specs.declared.entry.Entry.{Entry}
use Rattle.store_side.specs.declared.ending.StoreEnding.{StoreEnding}

pub record Past : Type 0 where
  -- how its sequential nodes are named, the key of its sessions' passwords, and the most entries that it may have and owe
  pub naming : Naming
  pub key : List ℕ
  pub limit : ℕ
  -- how many connections it admitted; they are numbered from 1
  pub admitted : ℕ
  -- the order in which it took what it was sent, and what these entries are to the machine
  pub order : List Entry
  pub acts : List Act
  -- for each connection the messages that it told, the bytes of them that were pulled, and those that were not
  pub told : ℕ → List Message
  pub pulled : ℕ → List ℕ
  pub waiting : ℕ → List ℕ
  -- for each connection the bytes of a frame that has not come whole, and why the store's side of it is over, if it is
  pub rests : ℕ → List ℕ
  pub endings : ℕ → Option StoreEnding
  -- whether all that it told can be pulled: where memory was wanting, some of it is held back
  pub written : Bool

-- the store's side of the connection is over
abbrev pub is_over : Past → ℕ → Bool
is_over past c = is_some (past.endings c)

-- the state after these acts
unfoldable pub after_all : Naming → State → List Act → State
after_all naming s [] = s
after_all naming s (act ∷ acts) = after_all naming (step naming s act).state acts

-- where the machine stands then
unfoldable pub state_of : Past → State
state_of past = after_all past.naming start past.acts

-- the password of a session: 8 zero bytes and its number, enciphered (FIPS 197)
unfoldable pub password_of : List ℕ → ℤ → List ℕ
password_of key session = Aes key (replicate 8 0 ++ long_bytes session)

-- A later past of the same store: what it took and told before stays, what is new stands at the ends, and what is over stays so.
pub record Later (old new : Past) : Type 0 where
  pub naming : new.naming ≡ old.naming
  pub key : new.key ≡ old.key
  pub limit : new.limit ≡ old.limit
  pub admitted : old.admitted ≤ new.admitted
  pub entries : List Entry
  pub order : new.order ≡ old.order ++ entries
  pub more_acts : List Act
  pub acts : new.acts ≡ old.acts ++ more_acts
  pub more_told : ℕ → List Message
  pub told : (c : ℕ) → new.told c ≡ old.told c ++ more_told c
  pub more_pulled : ℕ → List ℕ
  pub pulled : (c : ℕ) → new.pulled c ≡ old.pulled c ++ more_pulled c
  pub more_bytes : ℕ → List ℕ
  pub bytes : (c : ℕ) → new.pulled c ++ new.waiting c ≡ (old.pulled c ++ old.waiting c) ++ more_bytes c
  pub endings : (c : ℕ) (e : StoreEnding) → old.endings c ≡ Some e → new.endings c ≡ Some e
