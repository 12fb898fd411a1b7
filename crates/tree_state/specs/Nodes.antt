-- The nodes of the machine (ZooKeeper Programmer's Guide, "The ZooKeeper Data Model" and "ZooKeeper Stat Structure").
--
-- A path is the list of its components, the last one first. The nodes stand in the order in which they were made, so that
-- a session's ephemerals, read off them, stand in that order too.
use Rattle.std.specs.Prelude.{ℕ, ℤ, pos, ◌+◌, ◌==◌, ◌&&◌, ◌||◌, not, nat_lt, List, [], ◌∷◌, ◌++◌, length, map, filter, min, Bool, true, false, Option, Some, None, if◌then◌else◌}
use Rattle.std.specs.List.{filter_map}
use Rattle.std.specs.Ordering.{int_eq}
use Rattle.std.specs.Str.{bytes_eq}
use Rattle.zk_records.specs.declared.stat.Stat.{Stat}
use Rattle.tree_state.specs.declared.node.Numbers.{Numbers}

abbrev pub Path : Type 0
Path = List (List ℕ)

-- the content may be null
pub record Node : Type 0 where
  pub content : Option (List ℕ)
  pub numbers : Numbers

pub record Place : Type 0 where
  pub path : Path
  pub node : Node

-- ---- paths

unfoldable pub same_path : Path → Path → Bool
same_path [] [] = true
same_path [] (m ∷ q) = false
same_path (n ∷ p) [] = false
same_path (n ∷ p) (m ∷ q) = same_path p q && bytes_eq n m

-- the path above; the root stands above itself
unfoldable pub above : Path → Path
above [] = []
above (n ∷ p) = p

-- the name under the parent, where that is the path's parent
unfoldable pub name_under : Path → Path → Option (List ℕ)
name_under parent [] = None
name_under parent (n ∷ p) = if same_path parent p then Some n else None

-- ---- names in byte order

unfoldable pub text_le : List ℕ → List ℕ → Bool
text_le [] y = true
text_le (a ∷ x) [] = false
text_le (a ∷ x) (b ∷ y) = nat_lt a b || ((a == b) && text_le x y)

unfoldable pub placed : List ℕ → List (List ℕ) → List (List ℕ)
placed n [] = n ∷ []
placed n (m ∷ ms) = if text_le n m then n ∷ m ∷ ms else m ∷ placed n ms

unfoldable pub in_order : List (List ℕ) → List (List ℕ)
in_order [] = []
in_order (n ∷ ns) = placed n (in_order ns)

-- ---- the nodes at paths

-- the node at the path
unfoldable pub find : List Place → Path → Option Node
find [] p = None
find (e ∷ es) p = if same_path e.path p then Some e.node else find es p

unfoldable pub is_there : List Place → Path → Bool
is_there [] p = false
is_there (e ∷ es) p = if same_path e.path p then true else is_there es p

unfoldable pub changed_at : Path → (Node → Node) → Place → Place
changed_at p f e = if same_path e.path p then record { path = e.path; node = f e.node } else e

-- the nodes, of which that at the path is changed
unfoldable pub change : Path → (Node → Node) → List Place → List Place
change p f es = map (changed_at p f) es

-- the nodes and a new one
unfoldable pub add : Path → Node → List Place → List Place
add p n es = es ++ record { path = p; node = n } ∷ []

unfoldable pub is_elsewhere : Path → Place → Bool
is_elsewhere p e = not (same_path e.path p)

-- the nodes without the one at the path
unfoldable pub remove : Path → List Place → List Place
remove p es = filter (is_elsewhere p) es

unfoldable pub name_of_child : Path → Place → Option (List ℕ)
name_of_child p e = name_under p e.path

-- the names of a node's children, as they were made
unfoldable pub children : Path → List Place → List (List ℕ)
children p es = filter_map (name_of_child p) es

-- and in byte order
unfoldable pub child_names : Path → List Place → List (List ℕ)
child_names p es = in_order (children p es)

unfoldable pub has_children : Path → List Place → Bool
has_children p es = not (length (children p es) == 0)

unfoldable pub path_if_owned : ℤ → Place → Option Path
path_if_owned session e = if int_eq e.node.numbers.owner session then Some e.path else None

-- the ephemerals of a session, as they were made
unfoldable pub ephemerals : ℤ → List Place → List Path
ephemerals session es = filter_map (path_if_owned session) es

-- ---- what is told of a node

abbrev pub greatest_int : ℕ
greatest_int = 2147483647

-- the length of a content; null has none
unfoldable pub size_of : Option (List ℕ) → ℕ
size_of None = 0
size_of (Some content) = length content

-- the Stat of a node; cversion counts what came and went among its children, and ends at the greatest int
unfoldable pub stat_of : List Place → Path → Node → Stat
stat_of es p n = record {
  czxid = n.numbers.czxid;
  mzxid = n.numbers.mzxid;
  ctime = n.numbers.ctime;
  mtime = n.numbers.mtime;
  version = pos n.numbers.version;
  cversion = pos (min (n.numbers.creations + n.numbers.deletions) greatest_int);
  aversion = pos n.numbers.aversion;
  owner = n.numbers.owner;
  length = pos (size_of n.content);
  children = pos (length (children p es));
  pzxid = n.numbers.pzxid;
}
