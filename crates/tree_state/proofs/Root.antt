-- The map of the root alone, and what is held at the start.
use Rattle.std.proofs.Common.{◌≡◌, ◌≤◌, ℕ, ℤ, zero-le, length, true, List, [], ◌∷◌, Some, None, String, Global, string_bytes, string_cmp, codes, map, refl, sym, ap, subst, ◌∙◌, arith}
use Rattle.std.specs.Prelude.{All, pos, ◌≤ℤ◌}
use Rattle.std.specs.BTreeMap.{insert_entry}
use Rattle.std.proofs.lemmas.List.Elements.{All-nil, All-cons}
use Rattle.zk_path.specs.Paths.{IsComponent, text_of, IsTextOf}
use Rattle.tree_state.specs.declared.held.Held.{Held}
use Rattle.tree_state.specs.declared.node.Node as code
use Rattle.tree_state.specs.declared.places.Places.{Places}
use Rattle.tree_state.specs.Nodes.{Path, Node, Place, same_path, find, is_there, name_under, name_of_child, children, has_children, child_names, in_order, ephemerals, size_of, greatest_int}
use Rattle.tree_state.specs.State.{start_at, first_numbers}
use Rattle.tree_state.specs.Shuffles.{Shuffles}
use Rattle.tree_state.specs.Places.{path_of, Entry, node_of, place_of, HasText, HasNames, IsApart, IsRooted, IsSteady, Holds, IsRoot, text_limit}
use Rattle.tree_state.specs.Sessions.{Owning, Keeps}
use Rattle.tree_state.specs.Trees.{AreOwned, IsGiven, Means}
use Rattle.tree_state.specs.Watches.{Watching}
use Rattle.tree_state.proofs.Reorder.{same_order}
use Rattle.tree_state.proofs.PathTexts.{path_of-IsTextOf, IsTextOf-path_of}

root_node : ℕ → Node
root_node creations = record { content = None; numbers = first_numbers creations }

root_place : ℕ → Place
root_place creations = record { path = []; node = root_node creations }

root_text : (text : List ℕ) → text ≡ codes "/" → IsTextOf text []
unfolding text_of
root_text text e = record { legal = All-nil IsComponent; spelled = e }

root_placed : (k : String Global) (v : code.Node) (creations : ℕ) → string_bytes k ≡ codes "/" → node_of v ≡ root_node creations → place_of (k, v) ≡ root_place creations
unfolding place_of root_place
root_placed k v creations e same =
    let here = path_of-IsTextOf (string_bytes k) [] (root_text (string_bytes k) e) in
    cc

root_apart : (creations : ℕ) → IsApart (root_place creations ∷ [])
unfolding IsApart is_there
root_apart creations = (refl, tt)

no_child_names : (p : Path) (creations : ℕ) → child_names p (root_place creations ∷ []) ≡ []
unfolding child_names children name_of_child name_under in_order root_place
no_child_names p creations = refl

root_rooted : (creations : ℕ) → IsRooted (root_place creations ∷ [])
unfolding is_there same_path root_place
root_rooted creations = λ n p h. absurd cc

root_steady : (creations : ℕ) → creations ≤ greatest_int → (p : Path) (n : Node) → find (root_place creations ∷ []) p ≡ Some n → IsSteady (root_place creations ∷ []) p n
unfolding find same_path root_place root_node first_numbers children name_of_child name_under size_of
root_steady creations low [] n h =
    let same : root_node creations ≡ n = cc in
    subst (λ (x : Node). IsSteady (root_place creations ∷ []) [] x) same
    (record { versions = omega arith; acls = omega arith; came = low; went = zero-le; short = omega arith })
root_steady creations low (m ∷ p) n h = absurd cc

-- the root is put into an empty map
root_short : (creations : ℕ) (q : Path) → is_there (root_place creations ∷ []) q ≡ true → length (text_of q) ≤ text_limit
unfolding root_place is_there same_path text_of
root_short creations [] h = omega arith
root_short creations (n ∷ q) h = absurd cc

pub root_holds : (t : Places) (old : List Entry) (k : String Global) (v : code.Node) (creations : ℕ) → string_bytes k ≡ codes "/" → IsRoot v creations → creations ≤ greatest_int
    → old ≡ [] → t.nodes.entries ≡ insert_entry string_cmp old k v → Holds t (start_at creations).nodes
unfolding start_at root_place root_node
root_holds t old k v creations text root low empty put =
    let e : t.nodes.entries ≡ (k, v) ∷ [] = put ∙ ap (λ (es : List Entry). insert_entry string_cmp es k v) empty in
    let placed = root_placed k v creations text root.plain in
    let named : HasNames (root_place creations ∷ []) (k, v) = ap (map string_bytes) root.alone ∙ sym (no_child_names (path_of (string_bytes k)) creations) in
    record {
      places = subst (λ (xs : List Entry). Shuffles (map place_of xs) (root_place creations ∷ [])) (sym e)
          (subst (λ (x : Place). Shuffles (x ∷ []) (root_place creations ∷ [])) (sym placed) (same_order (root_place creations ∷ [])));
      apart = root_apart creations;
      texts = subst (All HasText) (sym e) (All-cons HasText (k, v) [] (IsTextOf-path_of (string_bytes k) [] (root_text (string_bytes k) text)) (All-nil HasText));
      names = subst (All (HasNames (root_place creations ∷ []))) (sym e)
          (All-cons (HasNames (root_place creations ∷ [])) (k, v) [] named (All-nil (HasNames (root_place creations ∷ []))));
      rooted = root_rooted creations;
      steady = root_steady creations low;
      short = root_short creations;
    }

-- ---- the start

root_free : (creations : ℕ) (p : Path) (n : Node) → find (start_at creations).nodes p ≡ Some n → n.numbers.owner ≡ pos 0
unfolding start_at first_numbers find same_path
root_free creations [] n h =
    let same : record { content = None; numbers = first_numbers creations } ≡ n = cc in
    subst (λ (x : Node). x.numbers.owner ≡ pos 0) same refl
root_free creations (m ∷ p) n h = absurd cc

alone_owned : (creations : ℕ) → AreOwned (start_at creations)
unfolding start_at has_children children name_of_child name_under
alone_owned creations = record {
  given = λ p n at_p. subst (λ (z : ℤ). z ≤ℤ pos 0) (sym (root_free creations p n at_p)) (record { le = tt });
  childless = λ p n at_p owned. refl;
  free = λ n at_root. root_free creations [] n at_root;
}

pub start_means : (h : Held) (creations : ℕ) → Holds h.places (start_at creations).nodes → ((owned : Owning) → Keeps h.sessions [] owned) → Watching h.watches [] → h.last ≡ pos 0 → Means h (start_at creations)
unfolding start_at
start_means h creations holds keeps watches last = record {
  places = holds;
  sessions = keeps (λ k. ephemerals k (start_at creations).nodes);
  owners = alone_owned creations;
  numbers = All-nil (IsGiven (start_at creations));
  watches = watches;
  last = last;
}
