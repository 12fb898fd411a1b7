-- Where a tree with its order and what it owes stands, and what it takes.
use Rattle.std.specs.Prelude.{◌≡◌, ◌⊎◌, ℕ, ℤ, pos, ◌+◌, ◌<◌, ◌≤◌, ◌^◌, ◌≤ℤ◌, ◌==◌, List, [], ◌∷◌, ◌++◌, length, true, Option, Some, None, All, if◌then◌else◌}
use Rattle.std.specs.Option.{option_map}
use Rattle.tree_state.specs.declared.held.Held.{Held}
use Rattle.tree_state.specs.declared.message.Output.{Output}
use Rattle.tree_state.specs.Changes.{Naming}
use Rattle.tree_state.specs.State.{start, session_at}
use Rattle.tree_state.specs.Step.{Act, connection_at, expires, step}
use Rattle.tree_state.specs.Trees.{Means, IsNaming}
use Rattle.tree_state.proofs.SessionLists.{AreDistinct}
use Rattle.store_side.specs.declared.entry.Entry.{Entry}
use Rattle.store_side.specs.declared.entry.Entry.TheVariants.{Expire}
use Rattle.store_side.specs.declared.ending.StoreEnding.{StoreEnding}
use Rattle.store_side.specs.declared.ending.StoreEnding.TheVariants as endings
use Rattle.store_side.specs.Acts.{AreActs}
use Rattle.store_side.specs.Out.{outputs}
use Rattle.store_side.specs.Orders.{ConnectsOnce, HasNoConnect, IsOver, LegalFrom}
use Rattle.store_side.specs.Owed.{reserves}
use Rattle.store_side.specs.Fitting.{AllCanBeSent}
use Rattle.store_side.specs.Past.{Past, password_of, state_of}
use Rattle.store_side.specs.Calls.{IsRefused, WouldAdd, ended_by_move, ending_after}
use Rattle.store_side.proofs.NoTrace.{NoTrace}
use Rattle.tree_server.specs.declared.books.Books.{Books}
use Rattle.tree_server.specs.declared.taking.Move.{Move}
use Rattle.tree_server.specs.Times.{AreDues, IsTimely}

-- A number that is counted as the entries are: it is not negative, and no greater than their number.
pub record IsCounted (n : ℤ) (entries : ℕ) : Type 0 where
  pub from : pos 0 ≤ℤ n
  pub within : n ≤ℤ pos entries

-- A tree whose numberer gives these names, a journal that keeps so and has room for so many more, and the books beside them stand at a past:
-- of that they know the naming, the key, the limit, the order and what that is to the machine.
pub record Stands (named : List ℕ → ℕ → List ℕ → Type 0) (keeps : List Entry → Type 0) (room : ℕ) (held : Held) (books : Books) (past : Past) : Type 0 where
  pub naming : IsNaming named past.naming
  -- the tree is the machine after these acts
  pub means : Means held (state_of past)
  pub are_acts : AreActs past.order past.acts
  pub steps : LegalFrom past.naming (password_of past.key) start past.order past.acts
  pub once : ConnectsOnce past.order
  -- a connection that has not connected has left no trace in it
  pub quiet : (c : ℕ) → HasNoConnect c past.order → NoTrace c (state_of past)
  -- the journal keeps the order, and has room for what is owed
  pub kept : keeps past.order
  pub roomy : books.owed ≤ room
  -- the books
  pub key : books.passwords ≡ past.key
  pub limit : books.limit ≡ past.limit
  pub small : past.limit < 2 ^ 63
  pub counted : books.entries ≡ length past.order
  pub owes : books.owed ≡ reserves (state_of past).sessions
  pub within : books.entries + books.owed ≤ books.limit
  pub greatest : books.greatest ≡ (state_of past).greatest
  pub given : IsCounted books.greatest books.entries
  pub drawn : IsCounted (state_of past).last books.entries
  pub dues : AreDues books.dues (state_of past).sessions
  pub timely : All IsTimely (state_of past).sessions
  pub distinct : AreDistinct (state_of past).sessions

-- the past with these entries more
abbrev pub added : List Entry → List Act → Past → Past
added entries acts past = record past { order = past.order ++ entries; acts = past.acts ++ acts }

-- how a connection is over by a move
unfoldable pub ended_move : Option Move → ℕ → Option StoreEnding
ended_move None d = None
ended_move (Some m) d = if d == m.connection then Some (endings.Moved m.session) else None

-- A whole frame of the connection was taken: this was sent for it, to whom the machine sends it; a session moved by it, or none; and the
-- connection ends by it, or not.
pub record Took (past : Past) (c : ℕ) (now : ℤ) (body : List ℕ) (sent : List Output) (moved : Option Move) (ending : Option StoreEnding) (new : Past) : Type 0 where
  pub entries : List Entry
  pub acts : List Act
  pub adds : WouldAdd past c now body entries acts
  pub moved_is : option_map (λ m. m.connection) moved ≡ adds.moved
  pub moved_ends : (d : ℕ) → ended_by_move adds.moved adds.frames d ≡ ended_move moved d
  pub ending_is : ending ≡ ending_after adds.frames
  pub sent_is : sent ≡ outputs past.naming (state_of past) acts
  pub can_send : AllCanBeSent sent
  pub new_is : new ≡ added entries acts past

-- it was not taken for this reason, or for want of memory
abbrev pub NotTaken : Past → ℕ → ℤ → List ℕ → StoreEnding → Type 0
NotTaken past c now body e = (e ≡ endings.Memory) ⊎ IsRefused past c now body e

-- A session expired: this was sent for that, and this connection had it.
pub record Expired (past : Past) (session now : ℤ) (sent : List Output) (connection : Option ℕ) (new : Past) : Type 0 where
  pub zxid : ℤ
  pub over : IsOver (state_of past) session now
  pub last : zxid ≡ (step past.naming (state_of past) (expires session now)).state.last
  pub connection_is : connection ≡ connection_at (session_at session (state_of past).sessions)
  pub sent_is : sent ≡ outputs past.naming (state_of past) (expires session now ∷ [])
  pub can_send : AllCanBeSent sent
  pub new_is : new ≡ added (Expire session zxid now ∷ []) (expires session now ∷ []) past

-- ---- the start

-- nothing has come yet
abbrev pub fresh : Naming → List ℕ → ℕ → Past
fresh naming key limit = record {
  naming = naming;
  key = key;
  limit = limit;
  admitted = 0;
  order = [];
  acts = [];
  told = λ c. [];
  pulled = λ c. [];
  waiting = λ c. [];
  rests = λ c. [];
  endings = λ c. None;
  written = true;
}
