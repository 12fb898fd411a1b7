-- A request that a machine takes, step by step.
use Rattle.std.specs.Prelude.{◌≡◌, ◌≢◌, ◌⊎◌, ℕ, ℤ, ◌+◌, ◌-◌, ◌<◌, ◌≤◌, ◌^◌, List, min}
use Rattle.jute_core.specs.declared.cursor.Reason.{Reason}
use Rattle.jute_core.specs.declared.cursor.Refusal.{Refusal}
use Rattle.jute_core.specs.declared.not_read.NotRead.{NotRead}
use Rattle.jute_core.specs.declared.not_read.NotRead.TheVariants as reads
use Rattle.zk_messages.specs.declared.request.Request.{Request}
use Rattle.zk_messages.specs.declared.request.Request.TheVariants as requests
use Rattle.tree_state.specs.declared.held.Held.{Held}
use Rattle.tree_state.specs.declared.message.Output.{Output}
use Rattle.tree_state.specs.Commands.{Command, IsCommand}
use Rattle.tree_state.specs.State.{State}
use Rattle.tree_state.specs.Step.{Act, asks, step}
use Rattle.tree_state.specs.Trees.{Does}
use Rattle.store_side.specs.declared.ending.StoreEnding.{StoreEnding}
use Rattle.store_side.specs.declared.ending.StoreEnding.TheVariants as endings
use Rattle.store_side.specs.declared.entry.Entry.{Entry}
use Rattle.store_side.specs.declared.entry.Entry.TheVariants.{Take}
use Rattle.store_side.specs.Fitting.{answer_length}
use Rattle.store_side.specs.Past.{Past, state_of}
use Rattle.tree_server.specs.declared.books.Books.{Books}
use Rattle.tree_server.specs.declared.dues.Due.{Due}
use Rattle.tree_server.specs.declared.request.Origin.{Origin}
use Rattle.tree_server.specs.Times.{AreDues}

-- how a connection ends at a frame that was not read
abbrev pub unread : NotRead → StoreEnding
unread (reads.Refused refusal) = endings.Malformed refusal
unread reads.Memory = endings.Memory

-- there was no memory, or the body is none
abbrev pub IsUnread : List ℕ → (List ℕ → ℕ → Reason → Type 0) → StoreEnding → Type 0
IsUnread body Is e = (e ≡ endings.Memory) ⊎ ((refusal : Refusal) × (e ≡ endings.Malformed refusal) × Is body refusal.place refusal.reason)

-- what is asked, as an act
abbrev pub act_of : Origin → Command → Act
act_of from command = asks from.connection from.xid command from.time

-- and as an entry
abbrev pub entry_of : Origin → Request → ℤ → Entry
entry_of from r zxid = Take from.connection from.xid r zxid from.time

-- where the answer to the request is a child list, it has so many bytes
pub record HasLength (s : State) (r : Request) (size : ℕ) : Type 0 where
  pub command : Command
  pub is_command : IsCommand r command
  pub size_is : size ≡ min (answer_length s command) (2 ^ 64 - 1)

-- there is room for the entry of the request with those owed; a session that closes owes less
abbrev pub HasPlace : Books → Request → Type 0
HasPlace books r = r ≢ requests.Close → books.limit < 2 ^ 63 → books.entries + books.owed + 1 ≤ books.limit

-- there is room, and the answer can be sent
pub record MayTake (books : Books) (s : State) (r : Request) : Type 0 where
  pub command : Command
  pub is_command : IsCommand r command
  pub fits : answer_length s command < 2 ^ 31
  pub place : HasPlace books r

-- or not
pub data CannotTake (books : Books) (s : State) (r : Request) : StoreEnding → Type 0 where
  full : (command : Command) → IsCommand r command → r ≢ requests.Close → books.limit < books.entries + books.owed + 1
      → CannotTake books s r endings.JournalFull
  too_much : (size : ℕ) (command : Command) → IsCommand r command → 2 ^ 31 ≤ answer_length s command
      → size ≡ min (answer_length s command) (2 ^ 64 - 1) → HasPlace books r
      → CannotTake books s r (endings.AnswerTooLong size)

-- The tree was asked this at a past: these are the machine's outputs, and what is held and the times are of its state after the act.
pub record Asked (past : Past) (act : Act) (held : Held) (dues : List Due) (outputs : List Output) : Type 0 where
  pub does : Does past.naming (state_of past) act held outputs
  pub are_dues : AreDues dues (step past.naming (state_of past) act).state.sessions
