-- What the proof says of one connection: the messages that frames spell, and what the requests of a connection ask.
use Rattle.std.specs.Prelude.{◌≡◌, ◌≢◌, ℕ, negsuc, List, [], ◌∷◌, ◌++◌}
use Rattle.jute_core.specs.Frames.{FitsFrame}
use Rattle.zk_records.specs.declared.connect.ConnectResponse.{ConnectResponse}
use Rattle.zk_messages.specs.declared.request.Item.{Item}
use Rattle.zk_messages.specs.declared.request.Item.TheVariants as items
use Rattle.request_rewrite.specs.Asks.{Asks}
use Rattle.tree_state.specs.declared.message.Message.{Message}
use Rattle.tree_state.specs.Step.{Act}
use Rattle.tree_state.specs.Plain.{plain}
use Rattle.tree_state.specs.declared.message.Message.TheVariants as messages
use Rattle.tree_state.specs.State.{start}
use Rattle.store_side.specs.Messages.{SpellsMessage}
use Rattle.store_side.specs.Out.{out}
use Rattle.store_side.specs.Zips.{Zips}
use Rattle.sealed_machine.specs.Runs.{Question, all_asked, HasNoConnected}
use Rattle.entry_session.specs.StoreTurns.{IsOfForm}
use Rattle.entry_session.specs.Stands.{Stand}
use Rattle.session_law.specs.Law.{IsHonestEnd}

-- these bodies are the first of the messages
unfoldable pub SpellsFront : List Message → List (List ℕ) → Type 0
SpellsFront ms [] = Unit {0}
SpellsFront [] (b ∷ bs) = ⊥
SpellsFront (m ∷ ms) (b ∷ bs) = SpellsMessage m b × SpellsFront ms bs

-- whole frames
unfoldable pub AreWhole : List (List ℕ) → Type 0
AreWhole [] = Unit {0}
AreWhole (b ∷ bs) = FitsFrame b × AreWhole bs

-- what was asked in a run are the first of these items
unfoldable pub AreAsked : List Question → List Item → Type 0
AreAsked [] is = Unit {0}
AreAsked (q ∷ qs) [] = ⊥
AreAsked (q ∷ qs) (items.Asks asked ∷ is) = ⊥
AreAsked (q ∷ qs) (items.Requests xid r ∷ is) = (xid ≡ q.xid) × (xid ≢ negsuc 0) × Asks r q.asked × AreAsked qs is

-- the connect request of what was sent has the form of the answer, and the requests are what was asked
unfoldable pub IsBegun : ConnectResponse → List Question → List Item → Type 0
IsBegun r qs [] = Unit {0}
IsBegun r qs (items.Asks asked ∷ is) = IsOfForm asked r × AreAsked qs is
IsBegun r qs (items.Requests xid request ∷ is) = ⊥

-- what the plain machine sends to one connection: nothing, or first the answer to its connect request and then no other
pub data IsOrderly (c : ℕ) (acts : List Act) (sent : List Item) : Type 0 where
  unheard : out plain acts c ≡ [] → IsOrderly c acts sent
  heard : (r : ConnectResponse) (ms : List Message) → out plain acts c ≡ messages.Connected r ∷ ms → HasNoConnected ms → IsBegun r (all_asked c start acts) sent → IsOrderly c acts sent

-- what the session handed down is the front of the plain messages, a frame each, and nothing was found
pub record IsTold (plain_messages : List Message) (s : Stand) : Type 0 where
  pub done : List Message
  pub left : List Message
  pub front : plain_messages ≡ done ++ left
  pub down : Zips SpellsMessage done s.down
  pub none : s.findings ≡ []
  pub honest : IsHonestEnd s.ending
