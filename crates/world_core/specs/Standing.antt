-- What a world keeps of the moment at which it stands.
use Rattle.std.specs.Prelude.{◌≡◌, ℕ, zero, suc, ◌+◌, ◌<◌, ◌≤◌, ◌^◌, List, [], ◌++◌, length, slice_get, Option, Some, None}
use Rattle.payload_seal.specs.declared.keys.EntryKeys.{EntryKeys}
use Rattle.store_side.specs.Past.{Past}
use Rattle.store_side.specs.Follows.{IsAdmitted}
use Rattle.entry_session.specs.Heard.{client_frames, store_frames}
use Rattle.entry_session.specs.Kept.{At}
use Rattle.entry_session.specs.Sides.{bytes_of}
use Rattle.world_core.specs.declared.connection.Connection.{Connection}
use Rattle.world_core.specs.declared.clients.Clients.{Clients}
use Rattle.world_core.specs.Moments.{Link, Moment, IsSoundMoment}
use Rattle.world_core.specs.Steps.{Spot}

-- What is kept of a connection of this number under these keys, of which these bytes were pulled: its session stands where what it
-- heard leads, and beside it stand the bytes of both directions and how many of them were moved.
pub record Keeps (k : EntryKeys) (boot c : ℕ) (pulled : List ℕ) (x : Connection) (l : Link) : Type 0 where
  pub keys : x.session.going.keys ≡ k
  pub boot_is : x.session.going.ivs.boot ≡ boot
  pub number : x.session.going.ivs.connection ≡ c
  pub client_rest : List ℕ
  pub store_rest : List ℕ
  pub at : At x.session l.heard client_rest store_rest l.stand
  pub client_cut : l.stand.ending ≡ None → l.came ≡ bytes_of (client_frames l.heard) ++ client_rest
  pub store_cut : l.stand.ending ≡ None → pulled ≡ bytes_of (store_frames l.heard) ++ store_rest
  pub sent : x.sent.items ≡ l.came ++ l.under_way
  pub came : x.came ≡ length l.came
  pub handed : x.handed.items ≡ bytes_of l.stand.up
  pub split : bytes_of l.stand.up ≡ l.fed ++ l.unfed
  pub fed : x.fed ≡ length l.fed
  pub received : x.received.items ≡ bytes_of l.stand.down
  pub cut : x.cut ≡ l.cut

-- before anything was done, a store has admitted no connection and has no entries
pub record IsNew (past : Past) : Type 0 where
  pub admitted : past.admitted ≡ 0
  pub order : past.order ≡ []
  pub acts : past.acts ≡ []

-- the connection of a number; they are numbered from 1
unfoldable pub connection_at : List Connection → ℕ → Option Connection
connection_at xs zero = None
connection_at xs (suc i) = slice_get xs i

-- where it stands; for 0 that is past every end
pub record IsPlace (c i : ℕ) : Type 0 where
  pub at : i < 2 ^ 63 → c ≡ i + 1
  pub none : 2 ^ 63 ≤ i → c ≡ 0

-- the connections are kept as they are at this moment
pub record AreKept (k : EntryKeys) (boot : ℕ) (clients : Clients) (m : Moment) : Type 0 where
  pub keys : clients.setup.keys ≡ k
  pub boot_is : clients.setup.boot ≡ boot
  pub now : clients.clock ≡ m.now
  pub admitted : length clients.connections.items ≡ m.past.admitted
  pub few : m.past.admitted < 2 ^ 32
  pub each : (c : ℕ) (x : Connection) → connection_at clients.connections.items c ≡ Some x → Keeps k boot c (m.past.pulled c) x (m.links c)

-- A world whose store stands at the pasts for which this holds, and which keeps its connections so, stands at a moment.
pub record Stands (store : Past → Type 0) (k : EntryKeys) (boot : ℕ) (clients : Clients) (m : Moment) : Type 0 where
  pub store_stands : store m.past
  pub kept : AreKept k boot clients m
  pub sound : IsSoundMoment k boot m

-- From each moment at which it stood, a call leads to one at which it stands then.
abbrev pub Moves : (Past → Type 0) → Clients → (Past → Type 0) → Clients → (EntryKeys → ℕ → Moment → Moment → Type 0) → Type 0
Moves before old after new P = (k : EntryKeys) (boot : ℕ) (m : Moment) → Stands before k boot old m → (n : Moment) × P k boot m n × Stands after k boot new n

-- the same of a call that names an admitted connection
abbrev pub MovesOf : ℕ → (Past → Type 0) → Clients → (Past → Type 0) → Clients → (EntryKeys → ℕ → Moment → Moment → Type 0) → Type 0
MovesOf c before old after new P = (k : EntryKeys) (boot : ℕ) (m : Moment) → Stands before k boot old m → IsAdmitted m.past c → (n : Moment) × P k boot m n × Stands after k boot new n

-- what is read of an admitted connection
abbrev pub Reads : ℕ → (Past → Type 0) → Clients → (Moment → Type 0) → Type 0
Reads c store clients P = (k : EntryKeys) (boot : ℕ) (m : Moment) → Stands store k boot clients m → IsAdmitted m.past c → P m

-- From each spot at which connection c and the store stood, a part of a call leads to one at which they stand then.
abbrev pub MovesSpot : ℕ → (Past → Type 0) → Connection → (Past → Type 0) → Connection → (EntryKeys → ℕ → Spot → Spot → Type 0) → Type 0
MovesSpot c before old after new P = (k : EntryKeys) (boot : ℕ) (s : Spot) → before s.past → IsAdmitted s.past c → Keeps k boot c (s.past.pulled c) old s.link
    → (n : Spot) × P k boot s n × after n.past × Keeps k boot c (n.past.pulled c) new n.link
