-- Which nodes an ordered map of path texts holds.
use Rattle.std.specs.Prelude.{◌≡◌, ℕ, pos, ◌+◌, ◌-◌, ◌^◌, ◌≤◌, List, [], ◌∷◌, length, map, min, true, false, Option, Some, None, All, String, codes, if◌then◌else◌}
use Rattle.std.specs.Global.{Global}
use Rattle.std.specs.Str.{bytes_eq}
use Rattle.std.specs.String.{string_bytes}
use Rattle.zk_path.specs.Paths.{text_of, IsTextOf}
use Rattle.zk_path.specs.View.{components}
use Rattle.zk_records.specs.declared.stat.Stat.{Stat}
use Rattle.tree_state.specs.declared.node.Node as code
use Rattle.tree_state.specs.declared.places.Places.{Places}
use Rattle.tree_state.specs.Nodes.{Path, Node, Place, find, is_there, children, child_names, size_of, greatest_int}
use Rattle.tree_state.specs.State.{first_numbers}
use Rattle.tree_state.specs.Shuffles.{Shuffles}

-- the path with this text
unfoldable pub path_of : List ℕ → Path
path_of text = if bytes_eq text (codes "/") then [] else components text

abbrev pub Entry : Type 0
Entry = String Global × code.Node

abbrev pub path_at : Entry → Path
path_at e = path_of (string_bytes e.0)

-- the node of an entry
unfoldable pub node_of : code.Node → Node
node_of n = record { content = n.content; numbers = n.numbers }

unfoldable pub place_of : Entry → Place
place_of e = record { path = path_at e; node = node_of e.1 }

-- the key is the text of a legal path
abbrev pub HasText : Entry → Type 0
HasText e = IsTextOf (string_bytes e.0) (path_at e)

-- the node has the names of its children, in byte order
abbrev pub HasNames : List Place → Entry → Type 0
HasNames es e = map string_bytes e.1.names.keys ≡ child_names (path_at e) es

-- no two nodes have one path
unfoldable pub IsApart : List Place → Type 0
IsApart [] = Unit {0}
IsApart (e ∷ es) = (is_there es e.path ≡ false) × IsApart es

-- a node stands under another one, or is the root
abbrev pub IsRooted : List Place → Type 0
IsRooted es = (n : List ℕ) (p : Path) → is_there es (n ∷ p) ≡ true → is_there es p ≡ true

-- the most bytes of a path's text: that of a request's, and of a number
abbrev pub text_limit : ℕ
text_limit = 134217748

-- the most bytes of a content
abbrev pub content_limit : ℕ
content_limit = 134217728

-- the counts of a node are ints: no more children went and are there than came
pub record IsSteady (es : List Place) (p : Path) (n : Node) : Type 0 where
  pub versions : n.numbers.version ≤ greatest_int
  pub acls : n.numbers.aversion ≤ greatest_int
  pub came : n.numbers.creations ≤ greatest_int
  pub went : n.numbers.deletions + length (children p es) ≤ n.numbers.creations
  pub short : size_of n.content ≤ content_limit

-- the map holds these nodes, in the order of its keys
pub record Holds (t : Places) (es : List Place) : Type 0 where
  pub places : Shuffles (map place_of t.nodes.entries) es
  pub apart : IsApart es
  pub texts : All HasText t.nodes.entries
  pub names : All (HasNames es) t.nodes.entries
  pub rooted : IsRooted es
  pub steady : (p : Path) (n : Node) → find es p ≡ Some n → IsSteady es p n
  pub short : (p : Path) → is_there es p ≡ true → length (text_of p) ≤ text_limit

-- what the code has of the root: no content and no children
pub record IsRoot (n : code.Node) (creations : ℕ) : Type 0 where
  pub plain : node_of n ≡ record { content = None; numbers = first_numbers creations }
  pub alone : n.names.keys ≡ []

-- the counts of a node, as the code has them, are ints
pub record IsSmall (n : code.Node) : Type 0 where
  pub versions : n.numbers.version ≤ greatest_int
  pub acls : n.numbers.aversion ≤ greatest_int
  pub came : n.numbers.creations ≤ greatest_int
  pub went : n.numbers.deletions ≤ greatest_int
  pub names : length n.names.keys ≤ greatest_int
  pub short : size_of n.content ≤ content_limit

-- what the code has of the node at a path
pub record IsNodeAt (es : List Place) (p : Path) (n : code.Node) : Type 0 where
  pub plain : find es p ≡ Some (node_of n)
  pub names : map string_bytes n.names.keys ≡ child_names p es
  pub small : IsSmall n

unfoldable pub IsFound : List Place → Path → Option code.Node → Type 0
IsFound es p None = find es p ≡ None
IsFound es p (Some n) = IsNodeAt es p n

-- the Stat of a node as the code has it
unfoldable pub kept_stat : code.Node → Stat
kept_stat n = record {
  czxid = n.numbers.czxid;
  mzxid = n.numbers.mzxid;
  ctime = n.numbers.ctime;
  mtime = n.numbers.mtime;
  version = pos n.numbers.version;
  cversion = pos (min (n.numbers.creations + n.numbers.deletions) greatest_int);
  aversion = pos n.numbers.aversion;
  owner = n.numbers.owner;
  length = pos (size_of n.content);
  children = pos (length n.names.keys);
  pzxid = n.numbers.pzxid;
}

-- how many bytes these names take in a list, each with the four bytes of its length
abbrev pub names_length : List (List ℕ) → ℕ
names_length [] = 0
names_length (name ∷ names) = (4 + length name) + names_length names

-- and as it is counted, up to the last number of 64 bits
unfoldable pub counted_length : List (List ℕ) → ℕ
counted_length names = min (names_length names) (2 ^ 64 - 1)
