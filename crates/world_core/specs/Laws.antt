-- What holds of every world.
use Rattle.std.specs.Prelude.{◌≡◌, ℕ, List, None}
use Rattle.payload_seal.specs.declared.keys.EntryKeys.{EntryKeys}
use Rattle.zk_messages.specs.Sent.{Sent}
use Rattle.zk_messages.specs.declared.request.Item.{Item}
use Rattle.tree_state.specs.Plain.{plain}
use Rattle.store_side.specs.Past.{password_of}
use Rattle.store_side.specs.Fill.{items_in}
use Rattle.store_side.specs.Messages.{Messages}
use Rattle.store_side.specs.Out.{out}
use Rattle.entry_session.specs.Sides.{bytes_of}
use Rattle.session_law.specs.Law.{IsJoined, Headline as SessionsHold}
use Rattle.world_core.specs.Moments.{Moment, IsSoundMoment, connection_of}
use Rattle.world_core.specs.Steps.{Drains, IsAllDrained}

-- What holds of a world at a moment: its clients sent these items, its connections are joined to their sessions and to the store, and
-- the law over sessions holds of them.
pub record Holds (k : EntryKeys) (boot : ℕ) (m : Moment) : Type 0 where
  pub items : ℕ → List Item
  pub joined : (c : ℕ) → IsJoined k boot c m.past (connection_of (m.links c)) (items c) (m.links c).under_way (m.links c).unfed
  pub sessions : SessionsHold k boot (password_of m.past.key) m.past (λ c. connection_of (m.links c)) items (λ c. (m.links c).under_way) (λ c. (m.links c).unfed)

-- it holds at each moment at which a world stands
abbrev pub HoldsAtEach : Type 0
HoldsAtEach = (k : EntryKeys) (boot : ℕ) (m : Moment) → IsSoundMoment k boot m → Holds k boot m

-- once drained, nothing is left of a connection whose session goes on
abbrev pub LeavesNothing : Type 0
LeavesNothing = (k : EntryKeys) (boot : ℕ) (m n : Moment) → IsSoundMoment k boot m → Drains k boot m n → IsAllDrained n

-- All of it: the client of connection c received all that the plain machine sends it over the order, all that it sent was handed up, and
-- the order has a Connect or Take for each item of it.
pub record HasAll (k : EntryKeys) (boot c : ℕ) (m : Moment) (h : Holds k boot m) : Type 0 where
  pub received : Messages (out plain h.sessions.acts c) (bytes_of (m.links c).stand.down)
  pub handed_up : (m.links c).stand.items ≡ h.items c
  pub taken : items_in c h.sessions.plain_order ≡ h.items c

-- once drained, each connection whose session goes on has all of it
abbrev pub HasAllOnceDrained : Type 0
HasAllOnceDrained = (k : EntryKeys) (boot : ℕ) (m : Moment) (h : Holds k boot m) → IsAllDrained m → (c : ℕ) → (m.links c).stand.ending ≡ None → HasAll k boot c m h

-- a client's bytes spell items
abbrev pub SpellItems : Type 0
SpellItems = (bytes : List ℕ) → (items : List Item) × Sent bytes items
