-- The value of one key is written, after a key came or went: what the map holds then.
use Rattle.std.proofs.Common.{◌≡◌, ℕ, ◌≤◌, ◌+◌, length, false, List, Option, Some, None, string_bytes, map, option_map, refl, sym, ap, subst, ◌∙◌}
use Rattle.std.specs.Prelude.{All}
use Rattle.std.specs.Map.{lookup, set_value}
use Rattle.zk_path.specs.Paths.{IsTextOf}
use Rattle.tree_state.specs.declared.node.Node as code
use Rattle.tree_state.specs.Nodes.{Path, Node, Place, same_path, find, change, children, child_names}
use Rattle.tree_state.specs.Places.{Entry, path_at, node_of, place_of, HasText, HasNames, IsApart, IsSteady}
use Rattle.tree_state.proofs.Reorder.{Shuffles, Shuffles-sym, apart-Shuffles, find-Shuffles, change-Shuffles}
use Rattle.tree_state.proofs.Entries.{at_text, find_entries, set_entries, all_set}

-- the entries are those nodes, and have the names of children as these nodes say
pub record AreNodes (xs : List Entry) (es named : List Place) : Type 0 where
  pub places : Shuffles (map place_of xs) es
  pub apart : IsApart es
  pub texts : All HasText xs
  pub names : All (HasNames named) xs

apart_keys : (xs : List Entry) (es named : List Place) → AreNodes xs es named → IsApart (map place_of xs)
apart_keys xs es named h = apart-Shuffles _ _ (Shuffles-sym _ _ h.places) h.apart

found_value : (o : Option code.Node) (n : Node) → option_map node_of o ≡ Some n → (v : code.Node) × (o ≡ Some v) × (node_of v ≡ n)
found_value None n h = absurd cc
found_value (Some v) n h = (v, refl, cc)

-- the value of a node
pub value_of : (xs : List Entry) (es named : List Place) (text : List ℕ) (p : Path) (n : Node) → AreNodes xs es named → IsTextOf text p → find es p ≡ Some n
    → (v : code.Node) × (lookup (at_text text) xs ≡ Some v) × (node_of v ≡ n)
value_of xs es named text p n h k found =
    found_value _ n (sym (find_entries text p xs k h.texts) ∙ find-Shuffles p _ _ h.places (apart_keys xs es named h) ∙ found)

pub written_places : (xs : List Entry) (es named : List Place) (text : List ℕ) (p : Path) (f : Node → Node) (v w : code.Node) → AreNodes xs es named → IsTextOf text p
    → lookup (at_text text) xs ≡ Some v → node_of w ≡ f (node_of v) → Shuffles (map place_of (set_value (at_text text) xs w)) (change p f es)
written_places xs es named text p f v w h k l e =
    subst (λ (ps : List Place). Shuffles ps (change p f es)) (sym (set_entries text p f xs v w k h.texts (apart_keys xs es named h) l e)) (change-Shuffles p f _ _ h.places)

-- the names after the change are those of other nodes, which differ in the children of this path alone
pub written_names : (xs : List Entry) (es named after : List Place) (text : List ℕ) (p : Path) (v w : code.Node) → AreNodes xs es named → IsTextOf text p
    → lookup (at_text text) xs ≡ Some v → ((q : Path) → same_path q p ≡ false → child_names q after ≡ child_names q named)
    → (map string_bytes v.names.keys ≡ child_names p named → map string_bytes w.names.keys ≡ child_names p after)
    → All (HasNames after) (set_value (at_text text) xs w)
written_names xs es named after text p v w h k l other here =
    all_set (HasNames named) (HasNames after) text p xs v w k h.texts (apart_keys xs es named h) l
    (λ e t far names. names ∙ sym (other (path_at e) far))
    (λ key same names. here (names ∙ ap (λ (q : Path). child_names q named) same) ∙ ap (λ (q : Path). child_names q after) (sym same))
    h.names

-- a node with the children that it had is steady as it was
pub other_steady : (es fs : List Place) (q : Path) (n : Node) → IsSteady es q n → children q fs ≡ children q es → IsSteady fs q n
other_steady es fs q n h same =
    record { versions = h.versions; acls = h.acls; came = h.came; went = subst (λ (ns : List (List ℕ)). n.numbers.deletions + length ns ≤ n.numbers.creations) (sym same) h.went; short = h.short }
