-- A node is added under a parent: what the map holds then.
use Rattle.std.proofs.Common.{◌≡◌, ℕ, ℤ, ◌<◌, ◌≤◌, ◌+◌, Bool, true, false, List, [], ◌∷◌, Option, Some, length, String, Global, string_bytes, string_cmp, map, refl, sym, ap, subst, ◌∙◌, arith, inl, inr}
use Rattle.std.specs.Prelude.{All}
use Rattle.std.specs.Map.{set_value}
use Rattle.std.specs.BTreeMap.{insert_entry}
use Rattle.std.specs.BTreeSet.{BTreeSet}
use Rattle.std.proofs.lemmas.Bool.{cases_Bool}
use Rattle.zk_path.specs.Paths.{text_of, IsTextOf}
use Rattle.tree_state.specs.declared.node.Node as code
use Rattle.tree_state.specs.declared.node.Moment.{Moment}
use Rattle.tree_state.specs.declared.node.Numbers.{Numbers}
use Rattle.tree_state.specs.declared.places.Places.{Places}
use Rattle.tree_state.specs.Changes.{fresh_numbers, with_creation}
use Rattle.tree_state.specs.Counts.{with_child, IsCountedIn}
use Rattle.tree_state.specs.Nodes.{Path, Node, Place, same_path, find, is_there, change, add, children, child_names, placed, size_of, greatest_int}
use Rattle.tree_state.specs.Places.{path_of, Entry, node_of, place_of, HasText, HasNames, IsRooted, IsSteady, Holds, content_limit, text_limit}
use Rattle.tree_state.proofs.SamePaths.{same_path-true, same_path-above, same_path-sym}
use Rattle.tree_state.proofs.Reorder.{Shuffles}
use Rattle.tree_state.proofs.PathTexts.{path_of-IsTextOf, legal_above}
use Rattle.tree_state.proofs.Found.{found_there, there_changed, there_added-other, apart_changed, find_changed-same, find_changed-other, children_changed, find_added-same, find_added-other, apart_added, children_added-other, change_added}
use Rattle.tree_state.proofs.Entries.{at_text, there_holds, insert_places, all_inserted, texts_inserted, texts_set}
use Rattle.tree_state.proofs.NameSets.{has_name, insert_name}
use Rattle.tree_state.proofs.ChildNames.{has_child_name, names_changed, names_added-same, names_added-other, count_added, no_children, no_names, rooted_changed, rooted_added}
use Rattle.tree_state.proofs.ParentWritten.{AreNodes, value_of, written_places, written_names, other_steady}

-- ---- the counts

fresh_steady : (es : List Place) (q : Path) (at : Moment) (ephemeral : Bool) (content : Option (List ℕ)) → size_of content ≤ content_limit → children q es ≡ []
    → IsSteady es q (record { content = content; numbers = fresh_numbers at ephemeral })
unfolding fresh_numbers
fresh_steady es q at ephemeral content short none =
    let count : length (children q es) ≡ 0 = ap length none in
    record { versions = omega arith; acls = omega arith; came = omega arith; went = omega arith; short = short }

parent_steady : (es fs : List Place) (p : Path) (z : ℤ) (n : Node) → IsSteady es p n → n.numbers.creations < greatest_int → length (children p fs) ≡ length (children p es) + 1
    → IsSteady fs p (with_creation z n)
unfolding with_creation
parent_steady es fs p z n h low count =
    let went = h.went in
    record { versions = h.versions; acls = h.acls; came = omega arith; went = omega arith; short = h.short }

added_steady : (es : List Place) (n : List ℕ) (p : Path) (z : ℤ) (up : Node) (at : Moment) (ephemeral : Bool) (content : Option (List ℕ))
    → IsRooted es → ((q : Path) (x : Node) → find es q ≡ Some x → IsSteady es q x)
    → is_there es (n ∷ p) ≡ false → find es p ≡ Some up → up.numbers.creations < greatest_int → size_of content ≤ content_limit
    → (q : Path) (x : Node) → find (add (n ∷ p) (record { content = content; numbers = fresh_numbers at ephemeral }) (change p (with_creation z) es)) q ≡ Some x
    → IsSteady (add (n ∷ p) (record { content = content; numbers = fresh_numbers at ephemeral }) (change p (with_creation z) es)) q x
added_steady es n p z up at ephemeral content rooted steady absent found low short q x at_q =
    let node : Node = record { content = content; numbers = fresh_numbers at ephemeral } in
    let changed = change p (with_creation z) es in
    let after = add (n ∷ p) node changed in
    elim (cases_Bool (same_path (n ∷ p) q)) [
      | inl k ↦
          let here : n ∷ p ≡ q = same_path-true (n ∷ p) q k in
          let gone : is_there changed (n ∷ p) ≡ false = there_changed p (n ∷ p) (with_creation z) es ∙ absent in
          let first : find after (n ∷ p) ≡ Some node = find_added-same (n ∷ p) node changed gone in
          let again : find after (n ∷ p) ≡ Some x = subst (λ (r : Path). find after r ≡ Some x) (sym here) at_q in
          let same : node ≡ x = cc in
          let none : children (n ∷ p) after ≡ [] =
          children_added-other n p (n ∷ p) node changed (same_path-above n p) ∙ children_changed p (n ∷ p) (with_creation z) es ∙ no_children (n ∷ p) es rooted absent in
          subst (λ (r : Path). IsSteady after r x) here (subst (IsSteady after (n ∷ p)) same (fresh_steady after (n ∷ p) at ephemeral content short none))
      | inr k ↦
          let before : find changed q ≡ Some x = sym (find_added-other (n ∷ p) q node changed k) ∙ at_q in
          elim (cases_Bool (same_path p q)) [
            | inl m ↦
                let here : p ≡ q = same_path-true p q m in
                let first : find changed p ≡ Some (with_creation z up) = find_changed-same p (with_creation z) up es found in
                let again : find changed p ≡ Some x = subst (λ (r : Path). find changed r ≡ Some x) (sym here) before in
                let same : with_creation z up ≡ x = cc in
                let count : length (children p after) ≡ length (children p es) + 1 =
                count_added n p node changed ∙ ap (λ (ns : List (List ℕ)). length ns + 1) (children_changed p p (with_creation z) es) in
                subst (λ (r : Path). IsSteady after r x) here (subst (IsSteady after p) same (parent_steady es after p z up (steady p up found) low count))
            | inr m ↦
                other_steady es after q x (steady q x (sym (find_changed-other p q (with_creation z) es m) ∙ before))
                (children_added-other n p q node changed (same_path-sym p q m) ∙ children_changed p q (with_creation z) es)
          ]
    ]

-- ---- the entries

-- the entries with the new one, whose names are not yet the parent's
inserted : (t : Places) (es : List Place) (q : Path) (key : String Global) (value : code.Node) (node : Node) → Holds t es → IsTextOf (string_bytes key) q → node_of value ≡ node → value.names.keys ≡ []
    → is_there es q ≡ false → AreNodes (insert_entry string_cmp t.nodes.entries key value) (add q node es) es
inserted t es q key value node h text same bare absent =
    let here = path_of-IsTextOf (string_bytes key) q text in
    let names : map string_bytes value.names.keys ≡ child_names (path_of (string_bytes key)) es =
    ap (map string_bytes) bare ∙ sym (no_names q es h.rooted absent) ∙ ap (λ (r : Path). child_names r es) (sym here) in
    record {
      places = insert_places t es q node key value h text same absent;
      apart = apart_added q node es absent h.apart;
      texts = texts_inserted t es q key value h text absent;
      names = all_inserted (HasNames es) t.nodes.entries key value (there_holds t es (path_of (string_bytes key)) h ∙ ap (is_there es) here ∙ absent) names h.names;
    }

counted_node : (name : String Global) (z : ℤ) (v : code.Node) → node_of (with_child name z v) ≡ with_creation z (node_of v)
unfolding with_child node_of with_creation
counted_node name z v = refl

counted_names : (name : String Global) (z : ℤ) (v : code.Node) (ns : List (List ℕ)) → map string_bytes v.names.keys ≡ ns → has_name (string_bytes name) ns ≡ false
    → map string_bytes (with_child name z v).names.keys ≡ placed (string_bytes name) ns
unfolding with_child
counted_names name z v ns e absent =
    insert_name v.names.keys name (ap (has_name (string_bytes name)) e ∙ absent) ∙ ap (placed (string_bytes name)) e

low_value : (v : code.Node) (n : Node) → node_of v ≡ n → n.numbers.creations < greatest_int → v.numbers.creations < greatest_int
unfolding node_of
low_value v n e low = subst (λ (x : Node). x.numbers.creations < greatest_int) (sym e) low

-- the texts of paths are short after it as they were, where its own is
added_short : (es : List Place) (n : List ℕ) (p : Path) (node : Node) (changed : List Place) (text : List ℕ) → IsTextOf text (n ∷ p) → length text ≤ text_limit
    → ((r : Path) → is_there changed r ≡ true → length (text_of r) ≤ text_limit)
    → (q : Path) → is_there (add (n ∷ p) node changed) q ≡ true → length (text_of q) ≤ text_limit
added_short es n p node changed text spelled room short q there = elim (cases_Bool (same_path (n ∷ p) q)) [
  | inl k ↦ subst (λ (r : Path). length (text_of r) ≤ text_limit) (same_path-true (n ∷ p) q k) (subst (λ (l : List ℕ). length l ≤ text_limit) spelled.spelled room)
  | inr k ↦ short q (sym (there_added-other (n ∷ p) q node changed k) ∙ there)
]

-- a node is put where none is, and counted in its parent
pub holds_added : (t u w : Places) (es : List Place) (text upper : List ℕ) (n : List ℕ) (p : Path) (up : Node) (key name : String Global) (value : code.Node) (z : ℤ)
    (at : Moment) (ephemeral : Bool) (content : Option (List ℕ))
    → Holds t es → IsTextOf text (n ∷ p) → upper ≡ text_of p → string_bytes key ≡ text → string_bytes name ≡ n
    → node_of value ≡ record { content = content; numbers = fresh_numbers at ephemeral } → value.names.keys ≡ []
    → is_there es (n ∷ p) ≡ false → find es p ≡ Some up → up.numbers.creations < greatest_int → size_of content ≤ content_limit → length text ≤ text_limit
    → u.nodes.entries ≡ insert_entry string_cmp t.nodes.entries key value → IsCountedIn upper name z u.nodes.entries w.nodes.entries
    → Holds w (add (n ∷ p) (record { content = content; numbers = fresh_numbers at ephemeral }) (change p (with_creation z) es))
holds_added t u w es text upper n p up key name value z at ephemeral content h spelled above at_key at_name same bare absent found low short room put counts =
    let node : Node = record { content = content; numbers = fresh_numbers at ephemeral } in
    let f = with_creation z in
    let changed = change p f es in
    let xs : List Entry = insert_entry string_cmp t.nodes.entries key value in
    let parent : IsTextOf upper p = record { legal = legal_above n p spelled.legal; spelled = above } in
    let here : IsTextOf (string_bytes key) (n ∷ p) = subst (λ (l : List ℕ). IsTextOf l (n ∷ p)) (sym at_key) spelled in
    let nodes = inserted t es (n ∷ p) key value node h here same bare absent in
    let found_after : find (add (n ∷ p) node es) p ≡ Some up = find_added-other (n ∷ p) p node es (same_path-above n p) ∙ found in
    let v = value_of xs (add (n ∷ p) node es) es upper p up nodes parent found_after in
    let x = with_child name z v.0 in
    let set : w.nodes.entries ≡ set_value (at_text upper) xs x =
    subst (λ (l : List Entry). IsCountedIn upper name z l w.nodes.entries) put counts v.0 v.1 (low_value v.0 up v.2 low) in
    let gone : is_there changed (n ∷ p) ≡ false = there_changed p (n ∷ p) f es ∙ absent in
    let there : is_there changed p ≡ true = there_changed p p f es ∙ found_there p es up found in
    let places : Shuffles (map place_of (set_value (at_text upper) xs x)) (add (n ∷ p) node changed) =
    subst (Shuffles (map place_of (set_value (at_text upper) xs x))) (change_added p (n ∷ p) f node es (same_path-above n p))
    (written_places xs (add (n ∷ p) node es) es upper p f v.0 x nodes parent v.1 (counted_node name z v.0)) in
    let names : All (HasNames (add (n ∷ p) node changed)) (set_value (at_text upper) xs x) =
    written_names xs (add (n ∷ p) node es) es (add (n ∷ p) node changed) upper p v.0 x nodes parent v.1
    (λ q far. names_added-other n p q node changed far ∙ names_changed p q f es)
    (λ e. counted_names name z v.0 (child_names p es) e (ap (λ (m : List ℕ). has_name m (child_names p es)) at_name ∙ has_child_name n p es ∙ absent)
    ∙ ap (λ (m : List ℕ). placed m (child_names p es)) at_name ∙ sym (names_added-same n p node changed ∙ ap (placed n) (names_changed p p f es))) in
    record {
      places = subst (λ (l : List Entry). Shuffles (map place_of l) (add (n ∷ p) node changed)) (sym set) places;
      apart = apart_added (n ∷ p) node changed gone (apart_changed p f es h.apart);
      texts = subst (All HasText) (sym set) (texts_set (at_text upper) xs x nodes.texts);
      names = subst (All (HasNames (add (n ∷ p) node changed))) (sym set) names;
      rooted = rooted_added n p node changed there (rooted_changed p f es h.rooted);
      steady = added_steady es n p z up at ephemeral content h.rooted h.steady absent found low short;
      short = λ q q_there. added_short es n p node changed text spelled room (λ r r_there. h.short r (sym (there_changed p r f es) ∙ r_there)) q q_there;
    }

pub fresh_value : (content : Option (List ℕ)) (numbers : Numbers) (names : BTreeSet (String Global)) (at : Moment) (ephemeral : Bool) → numbers ≡ fresh_numbers at ephemeral
    → node_of (record { content = content; numbers = numbers; names = names }) ≡ record { content = content; numbers = fresh_numbers at ephemeral }
unfolding node_of
fresh_value content numbers names at ephemeral e = ap (λ (x : Numbers). record { content = content; numbers = x }) e
