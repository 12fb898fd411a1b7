-- A world at one moment: a store's past, and the connections, each of which joins a client to the store through a session.
use Rattle.std.specs.Prelude.{◌≡◌, ℕ, ℤ, pos, ◌<◌, List, [], ◌++◌, length, Bool, true, false, None}
use Rattle.path_seal.specs.Sealed.{AreKeys}
use Rattle.payload_seal.specs.declared.keys.EntryKeys.{EntryKeys}
use Rattle.zk_messages.specs.declared.request.Item.{Item}
use Rattle.counter_enclave.specs.Enclave.{IsSealedName}
use Rattle.tree_state.specs.State.{start}
use Rattle.tree_state.specs.Trees.{IsNaming}
use Rattle.store_side.specs.Past.{Past, is_over}
use Rattle.store_side.specs.Follows.{IsSound, IsAdmitted}
use Rattle.entry_session.specs.Heard.{Heard}
use Rattle.entry_session.specs.Stands.{Stand, fresh}
use Rattle.session_law.specs.Law.{Connection, IsJoined, AreBehind, taken_at}

-- One connection. Of what its client sent, the first bytes came to the session and the others are under way to it; what the session
-- heard led it to where it stands; of what it handed up the store was fed the first bytes and not the others; and it was cut or not.
pub record Link : Type 0 where
  pub came : List ℕ
  pub under_way : List ℕ
  pub heard : List Heard
  pub stand : Stand
  pub fed : List ℕ
  pub unfed : List ℕ
  pub cut : Bool

-- before anything came
abbrev pub fresh_link : Link
fresh_link = record { came = []; under_way = []; heard = []; stand = fresh; fed = []; unfed = []; cut = false }

-- all that the client sent before a cut
abbrev pub sent_by : Link → List ℕ
sent_by l = l.came ++ l.under_way

-- as the law over sessions sees it
abbrev pub connection_of : Link → Connection
connection_of l = record { sent = sent_by l; heard = l.heard; stand = l.stand; fed = l.fed }

pub record Moment : Type 0 where
  pub past : Past
  pub links : ℕ → Link
  -- the world's time in milliseconds
  pub now : ℤ

-- before anything was done, over a store that stands at this past
abbrev pub opening : Past → Moment
opening past = record { past = past; links = λ c. fresh_link; now = pos 0 }

-- Connection c meets the premises of the law over sessions: it is joined to its session and to the store, and no frame of the store
-- came before what the store had taken when it sent it. Of a frame that is not whole the store holds what it was fed.
pub record IsSoundAt (k : EntryKeys) (boot : ℕ) (m : Moment) (c : ℕ) : Type 0 where
  pub items : List Item
  pub joined : IsJoined k boot c m.past (connection_of (m.links c)) items (m.links c).under_way (m.links c).unfed
  pub behind : AreBehind (taken_at m.past.naming start c 0 m.past.acts) (m.links c).heard
  pub rest : is_over m.past c ≡ false → m.past.rests c ≡ joined.partial
  -- a connection that was cut has a session that ended
  pub cut : (m.links c).cut ≡ true → (m.links c).stand.ending ≡ None → ⊥

-- The store follows the plain machine with the names of a counter enclave under the same keys, and every connection is sound. Nothing
-- came of one that was not admitted.
pub record IsSoundMoment (k : EntryKeys) (boot : ℕ) (m : Moment) : Type 0 where
  pub keys : AreKeys k.names
  pub some : 0 < length k.payloads
  pub names : IsNaming (IsSealedName k.names) m.past.naming
  pub past : IsSound m.past
  pub each : (c : ℕ) → IsSoundAt k boot m c
  pub untouched : (c : ℕ) → (IsAdmitted m.past c → ⊥) → m.links c ≡ fresh_link
