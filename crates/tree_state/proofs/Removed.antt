-- A node without children goes: what the map holds then.
use Rattle.std.proofs.Common.{◌≡◌, ℕ, ℤ, ◌<◌, ◌+◌, Bool, true, false, cond, not, List, [], ◌∷◌, Some, length, string_bytes, map, filter, refl, sym, ap, subst, ◌∙◌, arith, inl, inr}
use Rattle.std.specs.Prelude.{All, ◌==◌}
use Rattle.std.specs.Map.{set_value, remove_entry}
use Rattle.std.proofs.lemmas.Bool.{cases_Bool}
use Rattle.zk_path.specs.Paths.{text_of, IsTextOf}
use Rattle.tree_state.specs.declared.node.Node as code
use Rattle.tree_state.specs.declared.places.Places.{Places}
use Rattle.tree_state.specs.Changes.{with_deletion}
use Rattle.tree_state.specs.Counts.{without_child, IsCountedOut}
use Rattle.tree_state.specs.Nodes.{Path, Node, Place, same_path, find, is_there, changed_at, change, is_elsewhere, remove, children, child_names, has_children, placed, greatest_int}
use Rattle.tree_state.specs.Places.{Entry, node_of, place_of, HasText, HasNames, IsApart, IsSteady, Holds}
use Rattle.tree_state.proofs.SamePaths.{same_path-true, same_path-above, same_path-sym}
use Rattle.tree_state.proofs.Reorder.{Shuffles}
use Rattle.tree_state.proofs.PathTexts.{legal_above}
use Rattle.tree_state.proofs.Found.{found_there, was_there, there_node, there_changed, apart_changed, find_changed-same, find_changed-other, children_changed, there_removed-same, find_removed-other, apart_removed, children_removed-other}
use Rattle.tree_state.proofs.Entries.{at_text, remove_places, all_removed, texts_removed, texts_set}
use Rattle.tree_state.proofs.NameSets.{has_name, remove_name}
use Rattle.tree_state.proofs.ChildNames.{has_child_name, names_changed, names_removed-same, names_removed-other, count_removed, rooted_changed, rooted_removed}
use Rattle.tree_state.proofs.ParentWritten.{AreNodes, value_of, written_places, written_names, other_steady}

-- a change leaves each node at its path
elsewhere_changed : (p q : Path) (f : Node → Node) (e : Place) → is_elsewhere q (changed_at p f e) ≡ is_elsewhere q e
unfolding changed_at is_elsewhere
elsewhere_changed p q f e = go (same_path e.path p)
  where
    go : (b : Bool) → not (same_path (cond b (record { path = e.path; node = f e.node }) e).path q) ≡ not (same_path e.path q)
    go true = refl
    go false = refl

-- a change and a removal in either order
pub change_removed : (p q : Path) (f : Node → Node) (es : List Place) → change p f (remove q es) ≡ remove q (change p f es)
unfolding change remove
change_removed p q f [] = refl
change_removed p q f (e ∷ es) = go (is_elsewhere q e) (is_elsewhere q (changed_at p f e)) (elsewhere_changed p q f e) (change_removed p q f es)
  where
    go : (b c : Bool) → c ≡ b → map (changed_at p f) (filter (is_elsewhere q) es) ≡ filter (is_elsewhere q) (map (changed_at p f) es)
        → map (changed_at p f) (cond b (e ∷ filter (is_elsewhere q) es) (filter (is_elsewhere q) es))
        ≡ cond c (changed_at p f e ∷ filter (is_elsewhere q) (map (changed_at p f) es)) (filter (is_elsewhere q) (map (changed_at p f) es))
    go true true i ih = ap (λ (l : List Place). changed_at p f e ∷ l) ih
    go true false i ih = absurd cc
    go false true i ih = absurd cc
    go false false i ih = ih

-- ---- the counts

parent_steady : (es fs : List Place) (p : Path) (z : ℤ) (n : Node) → IsSteady es p n → length (children p es) ≡ length (children p fs) + 1 → IsSteady fs p (with_deletion z n)
unfolding with_deletion
parent_steady es fs p z n h count =
    let went = h.went in
    record { versions = h.versions; acls = h.acls; came = h.came; went = omega arith; short = h.short }

one_child_less : (es : List Place) (n : List ℕ) (p : Path) (f : Node → Node) → IsApart es → is_there es (n ∷ p) ≡ true
    → length (children p es) ≡ length (children p (remove (n ∷ p) (change p f es))) + 1
one_child_less es n p f apart there =
    ap length (sym (children_changed p p f es)) ∙ count_removed n p (change p f es) (apart_changed p f es apart) (there_changed p (n ∷ p) f es ∙ there)

removed_steady : (es : List Place) (n : List ℕ) (p : Path) (z : ℤ) (up : Node)
    → IsApart es → ((q : Path) (x : Node) → find es q ≡ Some x → IsSteady es q x) → is_there es (n ∷ p) ≡ true → find es p ≡ Some up
    → (q : Path) (x : Node) → find (remove (n ∷ p) (change p (with_deletion z) es)) q ≡ Some x → IsSteady (remove (n ∷ p) (change p (with_deletion z) es)) q x
removed_steady es n p z up apart steady there found q x at_q =
    let changed = change p (with_deletion z) es in
    let after = remove (n ∷ p) changed in
    elim (cases_Bool (same_path (n ∷ p) q)) [
      | inl k ↦
          let gone : is_there after q ≡ false = subst (λ (r : Path). is_there after r ≡ false) (same_path-true (n ∷ p) q k) (there_removed-same (n ∷ p) changed) in
          let left = found_there q after x at_q in
          absurd cc
      | inr k ↦
          let before : find changed q ≡ Some x = sym (find_removed-other (n ∷ p) q changed k) ∙ at_q in
          elim (cases_Bool (same_path p q)) [
            | inl m ↦
                let here : p ≡ q = same_path-true p q m in
                let first : find changed p ≡ Some (with_deletion z up) = find_changed-same p (with_deletion z) up es found in
                let again : find changed p ≡ Some x = subst (λ (r : Path). find changed r ≡ Some x) (sym here) before in
                let same : with_deletion z up ≡ x = cc in
                subst (λ (r : Path). IsSteady after r x) here
                (subst (IsSteady after p) same (parent_steady es after p z up (steady p up found) (one_child_less es n p (with_deletion z) apart there)))
            | inr m ↦
                other_steady es after q x (steady q x (sym (find_changed-other p q (with_deletion z) es m) ∙ before))
                (children_removed-other n p q changed (same_path-sym p q m) ∙ children_changed p q (with_deletion z) es)
          ]
    ]

-- ---- the entries

-- the entries without the one, whose name is still its parent's
taken_out : (t : Places) (es : List Place) (text : List ℕ) (q : Path) → Holds t es → IsTextOf text q → AreNodes (remove_entry (at_text text) t.nodes.entries) (remove q es) es
taken_out t es text q h spelled = record {
  places = remove_places t es text q h spelled;
  apart = apart_removed q es h.apart;
  texts = texts_removed (at_text text) t.nodes.entries h.texts;
  names = all_removed (HasNames es) (at_text text) t.nodes.entries h.names;
}

counted_node : (name : List ℕ) (z : ℤ) (v : code.Node) → node_of (without_child name z v) ≡ with_deletion z (node_of v)
unfolding without_child node_of with_deletion
counted_node name z v = refl

counted_names : (name : List ℕ) (z : ℤ) (v : code.Node) (ns : List (List ℕ)) → map string_bytes v.names.keys ≡ placed name ns → has_name name ns ≡ false
    → map string_bytes (without_child name z v).names.keys ≡ ns
unfolding without_child
counted_names name z v ns e absent = remove_name name v.names.keys ns e absent

-- as many went as came, at most
low_value : (es : List Place) (n : List ℕ) (p : Path) (up : Node) (v : code.Node) → IsApart es → is_there es (n ∷ p) ≡ true → IsSteady es p up → node_of v ≡ up
    → v.numbers.deletions < greatest_int
unfolding node_of
low_value es n p up v apart there steady e =
    let count = count_removed n p es apart there in
    let came = steady.came in
    let went = steady.went in
    let low : up.numbers.deletions < greatest_int = omega arith in
    subst (λ (x : Node). x.numbers.deletions < greatest_int) (sym e) low

-- a node without children is taken out, and counted in its parent
pub holds_removed : (t u w : Places) (es : List Place) (text upper name : List ℕ) (n : List ℕ) (p : Path) (z : ℤ)
    → Holds t es → IsTextOf text (n ∷ p) → upper ≡ text_of p → name ≡ n → is_there es (n ∷ p) ≡ true → has_children (n ∷ p) es ≡ false
    → u.nodes.entries ≡ remove_entry (at_text text) t.nodes.entries → IsCountedOut upper name z u.nodes.entries w.nodes.entries
    → Holds w (remove (n ∷ p) (change p (with_deletion z) es))
unfolding has_children
holds_removed t u w es text upper name n p z h spelled above at_name there alone gone counts =
    let f = with_deletion z in
    let changed = change p f es in
    let after = remove (n ∷ p) changed in
    let xs : List Entry = remove_entry (at_text text) t.nodes.entries in
    let parent : IsTextOf upper p = record { legal = legal_above n p spelled.legal; spelled = above } in
    let nodes = taken_out t es text (n ∷ p) h spelled in
    let up = there_node p es (h.rooted n p there) in
    let found_after : find (remove (n ∷ p) es) p ≡ Some up.0 = find_removed-other (n ∷ p) p es (same_path-above n p) ∙ up.1 in
    let v = value_of xs (remove (n ∷ p) es) es upper p up.0 nodes parent found_after in
    let x = without_child n z v.0 in
    let set : w.nodes.entries ≡ set_value (at_text upper) xs x =
    subst (λ (l : List ℕ). IsCountedOut upper l z xs w.nodes.entries) at_name (subst (λ (l : List Entry). IsCountedOut upper name z l w.nodes.entries) gone counts)
    v.0 v.1 (low_value es n p up.0 v.0 h.apart there (h.steady p up.0 up.1) v.2) in
    let still : is_there changed (n ∷ p) ≡ true = there_changed p (n ∷ p) f es ∙ there in
    let places : Shuffles (map place_of (set_value (at_text upper) xs x)) after =
    subst (Shuffles (map place_of (set_value (at_text upper) xs x))) (change_removed p (n ∷ p) f es)
    (written_places xs (remove (n ∷ p) es) es upper p f v.0 x nodes parent v.1 (counted_node n z v.0)) in
    let names : All (HasNames after) (set_value (at_text upper) xs x) =
    written_names xs (remove (n ∷ p) es) es after upper p v.0 x nodes parent v.1
    (λ q far. names_removed-other n p q changed far ∙ names_changed p q f es)
    (λ e. counted_names n z v.0 (child_names p after)
    (e ∙ sym (names_changed p p f es) ∙ names_removed-same n p changed (apart_changed p f es h.apart) still)
    (has_child_name n p after ∙ there_removed-same (n ∷ p) changed)) in
    let none : has_children (n ∷ p) changed ≡ false = ap (λ (ns : List (List ℕ)). not (length ns == 0)) (children_changed p (n ∷ p) f es) ∙ alone in
    record {
      places = subst (λ (l : List Entry). Shuffles (map place_of l) after) (sym set) places;
      apart = apart_removed (n ∷ p) changed (apart_changed p f es h.apart);
      texts = subst (All HasText) (sym set) (texts_set (at_text upper) xs x nodes.texts);
      names = subst (All (HasNames after)) (sym set) names;
      rooted = rooted_removed (n ∷ p) changed none (rooted_changed p f es h.rooted);
      steady = removed_steady es n p z up.0 h.apart h.steady there up.1;
      short = λ q still_there. h.short q (sym (there_changed p q f es) ∙ was_there (n ∷ p) q changed still_there);
    }
