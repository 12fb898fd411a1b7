-- What the events of a replay do to a world, and what is printed of it.
use Rattle.std.specs.Prelude.{◌≡◌, ℕ, zero, suc, ◌+◌, List, [], ◌∷◌, ◌++◌, ◌==◌, codes, replicate, Bool, true, false, Option, None, if◌then◌else◌}
use Rattle.std.specs.Fmt.{decimal}
use Rattle.payload_seal.specs.declared.keys.EntryKeys.{EntryKeys}
use Rattle.counter_enclave.specs.Enclave.{IsSealedName}
use Rattle.tree_state.specs.Trees.{IsNaming}
use Rattle.store_side.specs.Past.{Past}
use Rattle.store_side.specs.Follows.{IsSound}
use Rattle.store_side.specs.declared.ending.StoreEnding.{StoreEnding}
use Rattle.entry_session.specs.Sides.{bytes_of}
use Rattle.entry_session.specs.declared.ending.Ending.{Ending}
use Rattle.world_core.specs.declared.amount.Amount.TheVariants.{AtMost}
use Rattle.world_core.specs.Moments.{IsSoundMoment, Moment, opening, sent_by}
use Rattle.world_core.specs.Standing.{IsNew}
use Rattle.world_core.specs.Steps.{Cut as CutOff, Down as GoDown, Drains, IsAllDrained, Sent, Ticks, Up as GoUp, added, timed}
use Rattle.world_core.specs.Laws.{HasAll, Holds}
use Rattle.audit_board.specs.Fields.{field, line_feed}
use Rattle.replay_cli.specs.Printed.{line, bytes_text, order_text}
use Rattle.replay_cli.specs.Endings.{session_text, store_text}
use Rattle.replay_cli.specs.Script.{IsOpen, IsTime, opened, opened_by}
use Rattle.replay_cli.specs.declared.script.Event.{Event}
use Rattle.replay_cli.specs.declared.script.Event.TheVariants.{Open, Send, Up, Down, Cut, Time, Tick, Drain}

-- ---- what happens

-- an event leads a world in boot 0 from one moment to another
unfoldable pub Happens : EntryKeys → Event → Moment → Moment → Type 0
Happens keys Open m n = n ≡ added m
Happens keys (Send c bytes) m n = Sent c bytes m n
Happens keys (Up c first second) m n = GoUp keys 0 c (AtMost first) (AtMost second) m n
Happens keys (Down c limit) m n = GoDown keys 0 c (AtMost limit) m n
Happens keys (Cut c) m n = CutOff c m n
Happens keys (Time now) m n = n ≡ timed now m
Happens keys Tick m n = Ticks m n
Happens keys Drain m n = Drains keys 0 m n

-- these events do, one after another
unfoldable pub AllHappen : EntryKeys → List Event → Moment → Moment → Type 0
AllHappen keys [] m n = n ≡ m
AllHappen keys (event ∷ events) m n = (next : Moment) × Happens keys event m next × AllHappen keys events next n

-- an event names a connection that was opened, of so many, or a time of a store
abbrev pub MayHappen : ℕ → Event → Type 0
MayHappen opened Open = Unit {0}
MayHappen opened (Send c bytes) = IsOpen opened c
MayHappen opened (Up c first second) = IsOpen opened c
MayHappen opened (Down c limit) = IsOpen opened c
MayHappen opened (Cut c) = IsOpen opened c
MayHappen opened (Time now) = IsTime now
MayHappen opened Tick = Unit {0}
MayHappen opened Drain = Unit {0}

-- each event may happen where it stands, where so many connections were opened above
unfoldable pub MayFollow : ℕ → List Event → Type 0
MayFollow opened [] = Unit {0}
MayFollow opened (event ∷ events) = MayHappen opened event × MayFollow (opened + opened_by event) events

-- what the client of connection c sends before a cut
unfoldable pub sent_to : ℕ → List Event → List ℕ
sent_to c [] = []
sent_to c (Send d bytes ∷ events) = if d == c then bytes ++ sent_to c events else sent_to c events
sent_to c (Cut d ∷ events) = if d == c then [] else sent_to c events
sent_to c (event ∷ events) = sent_to c events

-- the last event is a drain
unfoldable pub ends_in_drain : List Event → Bool
ends_in_drain [] = false
ends_in_drain (Drain ∷ []) = true
ends_in_drain (event ∷ events) = ends_in_drain events

-- The store of a replay before anything was done: a counter enclave under the same keys names its nodes, the key of its passwords is 16 zero
-- bytes, and it has room for 1,000,000 entries.
pub record IsFirstPast (keys : EntryKeys) (past : Past) : Type 0 where
  pub new : IsNew past
  pub sound : IsSound past
  pub names : IsNaming (IsSealedName keys.names) past.naming
  pub key : past.key ≡ replicate 16 0
  pub limit : past.limit ≡ 1000000

-- The headline. A replay of these events comes to this moment: they happened to it one after another, from a fresh store; the store follows
-- the machine, with the passwords of the key of 16 zero bytes, and the law over sessions holds of its connections and of what the events gave
-- their clients to send; and where the last event is a drain, a connection whose session goes on has all of it.
pub record Replayed (keys : EntryKeys) (events : List Event) (m : Moment) : Type 0 where
  pub first : Past
  pub is_first : IsFirstPast keys first
  pub happen : AllHappen keys events (opening first) m
  pub sound : IsSoundMoment keys 0 m
  pub key : m.past.key ≡ replicate 16 0
  pub admitted : m.past.admitted ≡ opened events
  pub given : (c : ℕ) → sent_by (m.links c) ≡ sent_to c events
  pub holds : Holds keys 0 m
  pub drained : ends_in_drain events ≡ true → IsAllDrained m
  pub complete : ends_in_drain events ≡ true → (c : ℕ) → (m.links c).stand.ending ≡ None → HasAll keys 0 c m holds

-- ---- what is printed

-- of a connection: its two endings, what its client received and what was handed to the store
unfoldable pub connection_text : ℕ → Option Ending → Option StoreEnding → List ℕ → List ℕ → List ℕ
connection_text number ending over received handed =
    line (codes "connection ") (decimal number)
    ++ field (codes "ending ") [] ++ session_text ending ++ line_feed
    ++ field (codes "store ") [] ++ store_text over ++ line_feed
    ++ line (codes "received ") (bytes_text received)
    ++ line (codes "handed ") (bytes_text handed)

abbrev pub link_text : Moment → ℕ → List ℕ
link_text m c = connection_text c (m.links c).stand.ending (m.past.endings c) (bytes_of (m.links c).stand.down) (bytes_of (m.links c).stand.up)

-- of so many connections, from this number on
unfoldable pub links_text : Moment → ℕ → ℕ → List ℕ
links_text m c zero = []
links_text m c (suc n) = link_text m c ++ links_text m (c + 1) n

-- of a world: its order, and its connections
abbrev pub world_text : Moment → List ℕ
world_text m = order_text m.past.order ++ links_text m 1 m.past.admitted

-- the text is what these events print under keys
pub record PrintsReplay (keys : EntryKeys) (events : List Event) (text : List ℕ) : Type 0 where
  pub moment : Moment
  pub replayed : Replayed keys events moment
  pub text_is : text ≡ world_text moment
