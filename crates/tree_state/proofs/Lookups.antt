-- What a look-up in the map finds.
use Rattle.std.proofs.Common.{◌≡◌, ℕ, Bool, true, false, cond, List, [], ◌∷◌, Option, Some, None, String, Global, string_bytes, length, map, option_map, refl, sym, ap, subst, ◌∙◌, arith}
use Rattle.std.specs.Prelude.{All}
use Rattle.std.specs.Map.{lookup}
use Rattle.std.proofs.lemmas.List.{length-map}
use Rattle.std.proofs.lemmas.List.Elements.{All-head, All-tail}
use Rattle.zk_path.specs.Paths.{IsTextOf}
use Rattle.tree_state.specs.declared.node.Node as code
use Rattle.tree_state.specs.declared.places.Places.{Places}
use Rattle.tree_state.specs.Nodes.{Path, Place, same_path, children, child_names}
use Rattle.tree_state.specs.Places.{path_of, Entry, path_at, node_of, HasText, HasNames, IsSteady, Holds, IsSmall, IsNodeAt, IsFound}
use Rattle.tree_state.proofs.SamePaths.{same_path-true}
use Rattle.tree_state.proofs.ByteOrder.{Shuffles-in_order}
use Rattle.tree_state.proofs.Reorder.{length-Shuffles}
use Rattle.tree_state.proofs.Entries.{at_text, keys_agree, find_holds}

-- what holds of each entry holds of the one that is found
pub all_found : (P : Entry → Type 0) (text : List ℕ) (p : Path) (es : List Entry) (v : code.Node) → IsTextOf text p → All HasText es → All P es → lookup (at_text text) es ≡ Some v
    → (k : String Global) × (path_of (string_bytes k) ≡ p) × P (k, v)
all_found P text p [] v h texts a l = absurd cc
all_found P text p (x ∷ es) v h texts a l =
    go (same_path (path_at x) p) (at_text text x.0) refl (keys_agree text p x h (All-head HasText x es texts)) l
    (all_found P text p es v h (All-tail HasText x es texts) (All-tail P x es a))
  where
    go : (b c : Bool) → same_path (path_at x) p ≡ b → b ≡ c → cond c (Some x.1) (lookup (at_text text) es) ≡ Some v
        → (lookup (at_text text) es ≡ Some v → (k : String Global) × (path_of (string_bytes k) ≡ p) × P (k, v))
        → (k : String Global) × (path_of (string_bytes k) ≡ p) × P (k, v)
    go true true i k m ih =
        let xv : x.1 ≡ v = cc in
        (x.0, same_path-true (path_at x) p i, subst (λ (z : code.Node). P (x.0, z)) xv (All-head P x es a))
    go true false i k m ih = absurd cc
    go false true i k m ih = absurd cc
    go false false i k m ih = ih m

pub length-child_names : (p : Path) (es : List Place) → length (child_names p es) ≡ length (children p es)
unfolding child_names
length-child_names p es = sym (length-Shuffles _ _ (Shuffles-in_order (children p es)))

names_held : (t : Places) (es : List Place) (text : List ℕ) (p : Path) (v : code.Node) → Holds t es → IsTextOf text p → lookup (at_text text) t.nodes.entries ≡ Some v
    → map string_bytes v.names.keys ≡ child_names p es
names_held t es text p v h k l =
    let r = all_found (HasNames es) text p t.nodes.entries v k h.texts h.names l in
    r.2 ∙ ap (λ (q : Path). child_names q es) r.1

small_steady : (es : List Place) (p : Path) (v : code.Node) → IsSteady es p (node_of v) → map string_bytes v.names.keys ≡ child_names p es → IsSmall v
unfolding node_of
small_steady es p v s e =
    let a = sym (length-map v.names.keys string_bytes) ∙ ap length e ∙ length-child_names p es in
    let came = s.came in
    let went = s.went in
    record {
      versions = s.versions;
      acls = s.acls;
      came = s.came;
      went = omega arith;
      names = omega arith;
      short = s.short;
    }

node_at : (t : Places) (es : List Place) (text : List ℕ) (p : Path) (v : code.Node) → Holds t es → IsTextOf text p → lookup (at_text text) t.nodes.entries ≡ Some v → IsNodeAt es p v
node_at t es text p v h k l =
    let plain = find_holds t es text p h k ∙ ap (option_map node_of) l in
    let names = names_held t es text p v h k l in
    record { plain = plain; names = names; small = small_steady es p v (h.steady p (node_of v) plain) names }

pub found_so : (t : Places) (es : List Place) (text : List ℕ) (p : Path) (o : Option code.Node) → Holds t es → IsTextOf text p → o ≡ lookup (at_text text) t.nodes.entries → IsFound es p o
unfolding IsFound
found_so t es text p None h k l = find_holds t es text p h k ∙ ap (option_map node_of) (sym l)
found_so t es text p (Some v) h k l = node_at t es text p v h k (sym l)
