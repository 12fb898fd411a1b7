-- What the frames of a client spell: a connect request first, then requests (zookeeper.jute).
use Rattle.std.specs.Prelude.{ℕ, List, Bool, true, false}
use Rattle.zk_records.specs.Connect.{SpellsConnect}
use Rattle.zk_messages.specs.Requests.{SpellsRequest}
use Rattle.zk_messages.specs.declared.request.Item.{Item}
use Rattle.zk_messages.specs.declared.request.Item.TheVariants.{Asks, Requests}

-- the body is this item: of the first frame a connect request, of each other one a request
abbrev pub IsItem : Bool → Item → List ℕ → Type 0
IsItem true (Asks asked) body = SpellsConnect asked body
IsItem true (Requests xid request) body = ⊥
IsItem false (Asks asked) body = ⊥
IsItem false (Requests xid request) body = SpellsRequest xid request body
