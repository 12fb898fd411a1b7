-- What one child more, or one less, makes of its parent as the code has it.
use Rattle.std.specs.Prelude.{◌≡◌, ℕ, ℤ, ◌+◌, ◌<◌, List, Bool, Some, String}
use Rattle.std.specs.BTreeSet.{insert_key}
use Rattle.std.specs.Cmp.Lexicographic.{slice_cmp}
use Rattle.std.specs.Global.{Global}
use Rattle.std.specs.Map.{lookup, set_value}
use Rattle.std.specs.Ordering.{is_eq, nat_cmp}
use Rattle.std.specs.Set.{remove_key}
use Rattle.std.specs.String.{string_bytes, string_cmp}
use Rattle.tree_state.specs.declared.node.Node as code
use Rattle.tree_state.specs.Nodes.{greatest_int}
use Rattle.tree_state.specs.Places.{Entry}

-- the key is this text
abbrev pub is_at_text : List ℕ → String Global → Bool
is_at_text text key = is_eq (slice_cmp nat_cmp text (string_bytes key))

-- the node with one more child, which has this name
unfoldable pub with_child : String Global → ℤ → code.Node → code.Node
with_child name z n = record {
  content = n.content;
  numbers = record n.numbers { creations = n.numbers.creations + 1; pzxid = z };
  names = record { keys = insert_key string_cmp n.names.keys name };
}

-- the node without the child that has this name
unfoldable pub without_child : List ℕ → ℤ → code.Node → code.Node
without_child name z n = record {
  content = n.content;
  numbers = record n.numbers { deletions = n.numbers.deletions + 1; pzxid = z };
  names = record { keys = remove_key (is_at_text name) n.names.keys };
}

-- the value at the key with this text gets one more child, and nothing else changes
abbrev pub IsCountedIn : List ℕ → String Global → ℤ → List Entry → List Entry → Type 0
IsCountedIn text name z old new =
    (n : code.Node) → lookup (is_at_text text) old ≡ Some n → n.numbers.creations < greatest_int → new ≡ set_value (is_at_text text) old (with_child name z n)

-- the value at the key with this text loses a child, and nothing else changes
abbrev pub IsCountedOut : List ℕ → List ℕ → ℤ → List Entry → List Entry → Type 0
IsCountedOut text name z old new =
    (n : code.Node) → lookup (is_at_text text) old ≡ Some n → n.numbers.deletions < greatest_int → new ≡ set_value (is_at_text text) old (without_child name z n)
