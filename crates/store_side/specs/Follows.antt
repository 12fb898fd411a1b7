-- A store that follows the machine.
use Rattle.std.specs.Prelude.{◌≡◌, ◌⊎◌, ℕ, ℤ, ◌+◌, ◌<◌, ◌≤◌, List, [], ◌++◌, length, false, Option, Some, None}
use Rattle.zk_messages.specs.declared.reply.Outcome.{Outcome}
use Rattle.zk_messages.specs.declared.reply.Outcome.TheVariants as outcomes
use Rattle.zk_messages.specs.declared.reply.Reply.{Reply}
use Rattle.tree_state.specs.declared.message.Message.{Message}
use Rattle.tree_state.specs.declared.message.Message.TheVariants as messages
use Rattle.tree_state.specs.Shuffles.{Shuffles}
use Rattle.tree_state.specs.Changes.{Naming}
use Rattle.tree_state.specs.State.{State, start}
use Rattle.store_side.specs.Zips.{Zips}
use Rattle.store_side.specs.Past.{Past, after_all, is_over, password_of, state_of}
use Rattle.store_side.specs.Owed.{reserves}
use Rattle.store_side.specs.Messages.{Messages}
use Rattle.store_side.specs.Out.{out}
use Rattle.store_side.specs.Orders.{HasNoConnect, HasSession, Legal}

-- what the machine answers, and what a store may tell in its place: the names of a child list in any order
unfoldable pub Shows : Outcome → Outcome → Type 0
Shows (outcomes.Children (Some names)) told = (list : List (List ℕ)) × (told ≡ outcomes.Children (Some list)) × Shuffles names list
Shows (outcomes.Children2 (Some names) stat) told = (list : List (List ℕ)) × (told ≡ outcomes.Children2 (Some list) stat) × Shuffles names list
Shows outcome told = told ≡ outcome

pub record ShowsReply (sent told : Reply) : Type 0 where
  pub same_xid : told.xid ≡ sent.xid
  pub same_zxid : told.zxid ≡ sent.zxid
  pub outcome : Shows sent.outcome told.outcome

unfoldable pub ShowsMessage : Message → Message → Type 0
ShowsMessage (messages.Connected response) told = told ≡ messages.Connected response
ShowsMessage (messages.Reply sent) (messages.Reply told) = ShowsReply sent told
ShowsMessage (messages.Event event) told = told ≡ messages.Event event
ShowsMessage sent told = ⊥

-- a store tells these in place of what its machine sends
abbrev pub Shown : List Message → List Message → Type 0
Shown sent told = Zips ShowsMessage sent told

-- Its order is legal with its own names, and to each connection the bytes pulled and those that wait are what its machine sends,
-- where the names of a child list may stand in any order. A connection whose side is not over has a session, or has not connected yet.
pub record Follows (naming : Naming) (passwords : ℤ → List ℕ) (past : Past) : Type 0 where
  pub legal : Legal naming passwords past.order past.acts
  pub shown : (c : ℕ) → Shown (out naming past.acts c) (past.told c)
  pub spelled : (c : ℕ) → Messages (past.told c) (past.pulled c ++ past.waiting c)
  pub goes_on : (c : ℕ) → is_over past c ≡ false → HasNoConnect c past.order ⊎ HasSession (after_all naming start past.acts) c

-- its entries, and those that it owes its sessions: their ends and the losses of their connections
abbrev pub owed : Past → ℕ
owed past = length past.order + reserves (state_of past).sessions

-- nothing came of the connection and nothing went to it
pub record IsUntouched (past : Past) (c : ℕ) : Type 0 where
  pub no_connect : HasNoConnect c past.order
  pub told : past.told c ≡ []
  pub pulled : past.pulled c ≡ []
  pub waiting : past.waiting c ≡ []
  pub rest : past.rests c ≡ []
  pub goes_on : past.endings c ≡ None

-- the number of an admitted connection
pub record IsAdmitted (past : Past) (c : ℕ) : Type 0 where
  pub from : 0 < c
  pub below : c ≤ past.admitted

-- It follows the machine with its own names and passwords, with what it owes it has no more entries than it may, and nothing is of a
-- connection that it has not admitted.
pub record IsSound (past : Past) : Type 0 where
  pub follows : Follows past.naming (password_of past.key) past
  pub within : owed past ≤ past.limit
  pub untouched : (c : ℕ) → (IsAdmitted past c → ⊥) → IsUntouched past c
