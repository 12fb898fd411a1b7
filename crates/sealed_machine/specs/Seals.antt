-- A plain state of the machine, and the same one sealed: a store's, with each name and each payload sealed.
--
-- The two are states of one machine at two namings. Their nodes stand in one order, and so do their watches; each stands
-- beside its sealed form.
use Rattle.std.specs.Prelude.{◌≡◌, ℕ, List, [], ◌∷◌, Option, Some, None}
use Rattle.zk_path.specs.Paths.{IsComponent, IsPath}
use Rattle.path_seal.specs.Sealed.{Keys, SealName, sealed}
use Rattle.payload_seal.specs.Payload.{Accepts}
use Rattle.payload_seal.specs.declared.keys.EntryKeys.{EntryKeys}
use Rattle.tree_state.specs.Nodes.{Path, Node, Place}
use Rattle.tree_state.specs.Places.{IsApart}
use Rattle.tree_state.specs.State.{Watch, State}
use Rattle.store_side.specs.Zips.{Zips}

-- the second path is the first one, which is legal, sealed
pub record Seals (k : Keys) (p q : Path) : Type 0 where
  pub legal : IsPath p
  pub is : q ≡ sealed k p

-- the name under the path, and what it is sealed to
pub record SealsName (k : Keys) (p : Path) (n m : List ℕ) : Type 0 where
  pub legal : IsComponent n
  pub is : m ≡ SealName k p n

-- the root has no content on either side; each other node has a payload that is accepted for its path
unfoldable pub Holds : List (List ℕ) → Path → Option (List ℕ) → Option (List ℕ) → Type 0
Holds keys [] d y = (d ≡ None) × (y ≡ None)
Holds keys (n ∷ p) d None = ⊥
Holds keys (n ∷ p) d (Some payload) = Accepts keys (n ∷ p) payload d

pub record SealedNode (k : EntryKeys) (p : Path) (n m : Node) : Type 0 where
  pub content : Holds k.payloads p n.content m.content
  pub numbers : n.numbers ≡ m.numbers

pub record SealedPlace (k : EntryKeys) (e f : Place) : Type 0 where
  pub path : Seals k.names e.path f.path
  pub node : SealedNode k e.path e.node f.node

pub record SealedWatch (k : Keys) (w v : Watch) : Type 0 where
  pub aspect : w.aspect ≡ v.aspect
  pub path : Seals k w.path v.path
  pub connection : w.connection ≡ v.connection

-- the second state is the first one, sealed; no two plain nodes have one path
pub record IsSealedState (k : EntryKeys) (s t : State) : Type 0 where
  pub nodes : Zips (SealedPlace k) s.nodes t.nodes
  pub apart : IsApart s.nodes
  pub sessions : s.sessions ≡ t.sessions
  pub watches : Zips (SealedWatch k.names) s.watches t.watches
  pub greatest : s.greatest ≡ t.greatest
  pub last : s.last ≡ t.last
