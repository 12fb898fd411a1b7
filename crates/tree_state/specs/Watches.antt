-- Which watches ordered maps keep: for each aspect the connections of each path, and the paths of each connection.
use Rattle.std.specs.Prelude.{◌≡◌, ◌≤◌, ◌==◌, ℕ, ℤ, pos, List, [], ◌∷◌, filter, not, Bool, false, Option, Some, None, All, String}
use Rattle.std.specs.BTreeMap.{get}
use Rattle.std.specs.BTreeSet.{BTreeSet}
use Rattle.std.specs.Global.{Global}
use Rattle.std.specs.List.{list_any}
use Rattle.std.specs.Map.{lookup}
use Rattle.std.specs.Ordering.{nat_cmp}
use Rattle.zk_path.specs.Paths.{IsTextOf}
use Rattle.tree_state.specs.declared.events.EventKind.{EventKind}
use Rattle.tree_state.specs.declared.events.EventKind.TheVariants as kinds
use Rattle.tree_state.specs.declared.watchers.Watchers.{Watchers}
use Rattle.tree_state.specs.declared.watches.Watches.{Watches}
use Rattle.tree_state.specs.Counts.{is_at_text}
use Rattle.tree_state.specs.State.{Aspect, on_data, on_children, Watch, told, is_same_watch}

-- the connections of a set, in ascending order
unfoldable pub members : Option (BTreeSet ℕ) → List ℕ
members None = []
members (Some cs) = cs.keys

-- the connections that watch the path with this text
unfoldable pub watchers_of : Watchers → List ℕ → List ℕ
watchers_of t text = members (lookup (is_at_text text) t.by_path.entries)

unfoldable pub has_text : List ℕ → Option (BTreeSet (String Global)) → Bool
has_text text None = false
has_text text (Some ks) = list_any (is_at_text text) ks.keys

-- the connection watches the path with this text
unfoldable pub is_watching : Watchers → ℕ → List ℕ → Bool
is_watching t c text = has_text text (get nat_cmp t.by_connection c)

-- the maps keep the watches of this aspect, by paths and by connections
pub record Watched (t : Watchers) (a : Aspect) (ws : List Watch) : Type 0 where
  pub by_path : (text : List ℕ) (p : List (List ℕ)) → IsTextOf text p → watchers_of t text ≡ told a p ws
  pub by_connection : (c : ℕ) (text : List ℕ) (p : List (List ℕ)) → IsTextOf text p → is_watching t c text ≡ list_any (λ d. d == c) (told a p ws)

-- they ascend by their connections
unfoldable pub Ascend : List Watch → Type 0
Ascend [] = Unit {0}
Ascend (w ∷ ws) = All (λ v. w.connection ≤ v.connection) ws × Ascend ws

-- the maps keep these watches
pub record Watching (t : Watches) (ws : List Watch) : Type 0 where
  pub ascend : Ascend ws
  pub contents : Watched t.contents on_data ws
  pub children : Watched t.children on_children ws

unfoldable pub is_other_watch : Watch → Watch → Bool
is_other_watch w v = not (is_same_watch w v)

-- the watches without this one
unfoldable pub unwatching : Watch → List Watch → List Watch
unwatching w ws = filter (is_other_watch w) ws

-- the number of an event
unfoldable pub number_of : EventKind → ℤ
number_of kinds.Created = pos 1
number_of kinds.Deleted = pos 2
number_of kinds.ContentChanged = pos 3
number_of kinds.ChildrenChanged = pos 4
