-- The law over many sessions: over one store that follows the machine, and what the session of each connection heard.
use Rattle.std.specs.Prelude.{◌≡◌, ◌≤◌, ◌<◌, ◌^◌, ◌<ℤ◌, ◌+◌, ◌==◌, if◌then◌else◌, ℕ, ℤ, pos, List, [], ◌∷◌, ◌++◌, length, map, true, false, Option, Some, None, All}
use Rattle.jute_core.specs.Frames.{Stream}
use Rattle.path_seal.specs.Sealed.{AreKeys}
use Rattle.payload_seal.specs.Ivs.{payload_iv}
use Rattle.payload_seal.specs.declared.keys.EntryKeys.{EntryKeys}
use Rattle.zk_messages.specs.Sent.{Sent, client_limit}
use Rattle.zk_messages.specs.declared.request.Item.{Item}
use Rattle.zk_messages.specs.declared.request.Request.{Request}
use Rattle.request_rewrite.specs.Veil.{Veil}
use Rattle.counter_enclave.specs.Enclave.{IsSealedName}
use Rattle.tree_state.specs.declared.message.Message.{Message}
use Rattle.tree_state.specs.Trees.{IsNaming}
use Rattle.tree_state.specs.Plain.{plain}
use Rattle.tree_state.specs.Changes.{Naming}
use Rattle.tree_state.specs.State.{State, start}
use Rattle.tree_state.specs.Step.{Act, connects, asks as asking, loses, expires, step}
use Rattle.sealed_machine.specs.Veils.{IsIvOf}
use Rattle.store_side.specs.Zips.{Zips}
use Rattle.store_side.specs.Messages.{Messages}
use Rattle.store_side.specs.Out.{to_connection, out}
use Rattle.store_side.specs.Orders.{Legal}
use Rattle.store_side.specs.Past.{Past, is_over}
use Rattle.store_side.specs.Follows.{Follows}
use Rattle.store_side.specs.declared.entry.Entry.{Entry}
use Rattle.store_side.specs.declared.entry.Entry.TheVariants.{Take}
use Rattle.entry_session.specs.Heard.{Heard, from_client, from_store, bad_client, bad_store, given, client_frames, store_frames, bad_of_client, bad_of_store}
use Rattle.entry_session.specs.Stands.{Stand}
use Rattle.entry_session.specs.ClientTurns.{greatest_epoch}
use Rattle.entry_session.specs.Runs.{Ran, store_limit, IsGivenEnding}
use Rattle.entry_session.specs.Veiled.{VeilsFrom, SpellsItems}
use Rattle.entry_session.specs.Sides.{IsSide, EndsAtClient, EndsAtStore, bytes_of}
use Rattle.entry_session.specs.declared.ending.Ending.{Ending}
use Rattle.entry_session.specs.declared.ending.Ending.TheVariants as endings
use Rattle.store_side.specs.Fill.{Fills, items_in, IsFront, EndsInClose}

-- ---- what is given

-- One connection between a client and the store: the bytes that its client gave, what its session heard and where that led, and the bytes
-- that the store was fed. What the client received is by definition the frames that the session handed down.
pub record Connection : Type 0 where
  pub sent : List ℕ
  pub heard : List Heard
  pub stand : Stand
  pub fed : List ℕ

-- how many of connection c's connects and requests the act is
unfoldable pub sent_by : ℕ → Act → ℕ
sent_by c (connects d asked session now) = if d == c then 1 else 0
sent_by c (asking d xid command now) = if d == c then 1 else 0
sent_by c (loses d) = 0
sent_by c (expires session now) = 0

-- For each message that a run from this state sends to connection c, in order: how many connects and requests of c were taken by then, the
-- act that sent it included, where n of them were taken before.
unfoldable pub taken_at : Naming → State → ℕ → ℕ → List Act → List ℕ
taken_at naming s c n [] = []
taken_at naming s c n (act ∷ acts) =
    map (λ (m : Message). n + sent_by c act) (to_connection c (step naming s act).outputs) ++ taken_at naming (step naming s act).state c (n + sent_by c act) acts

-- each frame of the store came after the frames of the client that had been taken when it was sent
unfoldable pub AreBehind : List ℕ → List Heard → Type 0
AreBehind counts [] = Unit {0}
AreBehind counts (from_store body ∷ hs) = ((done left : List ℕ) (n : ℕ) → counts ≡ done ++ n ∷ left → length done ≡ length (store_frames hs) → n ≤ length (client_frames hs)) × AreBehind counts hs
AreBehind counts (from_client body ∷ hs) = AreBehind counts hs
AreBehind counts (bad_client z ∷ hs) = AreBehind counts hs
AreBehind counts (bad_store z ∷ hs) = AreBehind counts hs
AreBehind counts (given e ∷ hs) = AreBehind counts hs

-- What joins connection c to its session and to the store.
pub record IsJoined (k : EntryKeys) (boot c : ℕ) (past : Past) (x : Connection) (items : List Item) (under_way unfed : List ℕ) : Type 0 where
  pub ran : Ran k boot c x.heard x.stand
  -- the items that the client sent; the first bytes came to its session, and the others are under way
  pub is_sent : Sent x.sent items
  pub came : List ℕ
  pub piped : x.sent ≡ came ++ under_way
  pub client_side : IsSide client_limit (client_frames x.heard) (bad_of_client x.heard) (EndsAtClient x.stand.ending x.heard) came
  -- the store's bytes are those pulled
  pub store_side : IsSide store_limit (store_frames x.heard) (bad_of_store x.heard) (EndsAtStore x.stand.ending x.heard) (past.pulled c)
  -- the store was fed the first of what was handed up
  pub up : bytes_of x.stand.up ≡ x.fed ++ unfed
  -- its entries of the connection hold what the first whole frames of these bytes spell, and all of them while its side is not over
  pub bodies : List (List ℕ)
  pub more : List (List ℕ)
  pub partial : List ℕ
  pub stream : Stream (bodies ++ more) partial x.fed
  pub spelled : SpellsItems true (items_in c past.order) bodies
  pub none_left : is_over past c ≡ false → more ≡ []

-- ---- what follows

-- No ending but that of a limit, of a malformed frame of the client, of the caller, rightly or not, and of the close. The limit on the store's
-- frames was really passed.
unfoldable pub IsHonestEnd : Option Ending → Type 0
IsHonestEnd None = Unit {0}
IsHonestEnd (Some (endings.ClientTooLong z)) = Unit {0}
IsHonestEnd (Some (endings.ClientMalformed refusal)) = Unit {0}
IsHonestEnd (Some (endings.StoreTooLong z)) = pos store_limit <ℤ z
IsHonestEnd (Some (endings.QueueFull weight)) = Unit {0}
IsHonestEnd (Some endings.IvSpent) = Unit {0}
IsHonestEnd (Some endings.Closed) = Unit {0}
IsHonestEnd (Some e) = IsGivenEnding e

-- the request is sealed under IVs, each of an epoch that has a key; `each` and `taken_up` of IsServed say which
pub record IsVeiled (k : EntryKeys) (plain veiled : Request) : Type 0 where
  pub ivs : List (List ℕ)
  pub are_ivs : All (IsIvOf k.payloads) ivs
  pub veil : Veil k ivs plain veiled

-- a plain entry, and the store's: the request of a Take is veiled, and all else is the same
unfoldable pub VeilsEntry : EntryKeys → Entry → Entry → Type 0
VeilsEntry k (Take c xid asked zxid now) (Take d number veiled at then_) = (c ≡ d) × (xid ≡ number) × IsVeiled k asked veiled × (zxid ≡ at) × (now ≡ then_)
VeilsEntry k (Take c xid asked zxid now) f = ⊥
VeilsEntry k e f = e ≡ f

-- What connection c comes to, where `plain_order` is the order filled with what the clients sent, and `acts` what it is to the plain machine.
pub record IsServed (k : EntryKeys) (boot c : ℕ) (past : Past) (plain_order : List Entry) (acts : List Act) (x : Connection) (items : List Item) (under_way unfed : List ℕ) : Type 0 where
  -- The client received the first of the bytes that the plain machine sends it, one frame for each whole frame of the store that came to its
  -- session, each after the frames of its client that the machine had been asked when it sent it; and nothing was found wrong with a reply.
  pub left : List ℕ
  pub received : Messages (out plain acts c) (bytes_of x.stand.down ++ left)
  pub one_for_one : length x.stand.down ≡ length (store_frames x.heard)
  pub in_turn : AreBehind (taken_at plain start c 0 acts) x.heard
  pub nothing_found : x.stand.findings ≡ []
  pub honest : IsHonestEnd x.stand.ending
  -- what was handed up are the first items that the client sent, veiled with IVs counted from 0
  pub kept : IsFront x.stand.items items
  pub veiled : List Item
  pub each : VeilsFrom k boot c 0 x.stand.items veiled
  pub as_many : length veiled ≡ length x.stand.items
  pub spelled : SpellsItems true veiled x.stand.up
  -- the store's entries hold the first of these, and the filled ones the first items that the client sent
  pub taken_up : IsFront (items_in c past.order) veiled
  pub filled_with : IsFront (items_in c plain_order) items
  -- the client received all of it once nothing waits, unless the session ended at a frame of the store
  pub all_received : (EndsAtStore x.stand.ending x.heard → ⊥) → past.waiting c ≡ [] → left ≡ []
  -- all that it sent was handed up once nothing is under way, unless the session ended at a frame of the client
  pub all_handed_up : (EndsAtClient x.stand.ending x.heard → ⊥) → under_way ≡ [] → x.stand.items ≡ items
  -- and the store took all that was handed up once it was fed all of that, while its side goes on
  pub all_taken : unfed ≡ [] → is_over past c ≡ false → items_in c plain_order ≡ x.stand.items
  -- where the session was closed, nothing more comes
  pub closed : x.stand.ending ≡ Some endings.Closed → (left ≡ []) × EndsInClose (items_in c plain_order)

-- The order, filled with what the clients sent, may be that of the plain machine with the same passwords; the store's requests are
-- its requests, veiled; and each connection is served.
pub record Headline (k : EntryKeys) (boot : ℕ) (passwords : ℤ → List ℕ) (past : Past) (x : ℕ → Connection) (items : ℕ → List Item) (under_way unfed : ℕ → List ℕ) : Type 0 where
  pub plain_order : List Entry
  pub fills : Fills past.order items plain_order
  pub acts : List Act
  pub legal : Legal plain passwords plain_order acts
  pub veils : Zips (VeilsEntry k) plain_order past.order
  -- no two payloads that the sessions sealed have one IV
  pub own_ivs : (c d i j : ℕ) → c < 2 ^ 32 → d < 2 ^ 32 → i < (x c).stand.sealed → j < (x d).stand.sealed
      → payload_iv (greatest_epoch k) boot c i ≡ payload_iv (greatest_epoch k) boot d j → (c ≡ d) × (i ≡ j)
  pub served : (c : ℕ) → IsServed k boot c past plain_order acts (x c) (items c) (under_way c) (unfed c)

-- For every store that follows the machine with the names of a counter enclave under the same keys, and every connection joined to it, all of
-- one boot and each under its number at the store, where no frame of the store came before what the store had taken when it sent it. It speaks of one moment, and holds at each.
abbrev pub HoldsOverSessions : Type 0
HoldsOverSessions = (k : EntryKeys) (boot : ℕ) (naming : Naming) (passwords : ℤ → List ℕ) (past : Past) (x : ℕ → Connection) (items : ℕ → List Item) (under_way unfed : ℕ → List ℕ)
    → AreKeys k.names → 0 < length k.payloads → IsNaming (IsSealedName k.names) naming → Follows naming passwords past
    → ((c : ℕ) → IsJoined k boot c past (x c) (items c) (under_way c) (unfed c))
    → ((c : ℕ) → AreBehind (taken_at naming start c 0 past.acts) (x c).heard)
    → Headline k boot passwords past x items under_way unfed
