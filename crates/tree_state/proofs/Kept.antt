-- What a change of one node's content and numbers keeps.
use Rattle.std.proofs.Common.{◌≡◌, ◌≤◌, ◌<◌, ◌+◌, ℕ, List, Option, Some, None, String, Global, string_bytes, length, map, option_map, inl, inr, sym, ap, subst, ◌∙◌, arith}
use Rattle.std.specs.Prelude.{All}
use Rattle.std.specs.Map.{lookup, set_value}
use Rattle.std.proofs.lemmas.Bool.{cases_Bool}
use Rattle.zk_path.specs.Paths.{IsTextOf}
use Rattle.tree_state.specs.declared.node.Node as code
use Rattle.tree_state.specs.declared.node.Moment.{Moment}
use Rattle.tree_state.specs.declared.places.Places.{Places}
use Rattle.tree_state.specs.Nodes.{Path, Node, Place, same_path, find, change, greatest_int, size_of}
use Rattle.tree_state.specs.Changes.{with_content, with_acl}
use Rattle.tree_state.specs.Shuffles.{Shuffles}
use Rattle.tree_state.specs.Places.{path_of, Entry, path_at, node_of, place_of, HasText, HasNames, IsSteady, Holds, content_limit}
use Rattle.tree_state.proofs.SamePaths.{same_path-true}
use Rattle.tree_state.proofs.Found.{there_changed, apart_changed, find_changed-same, find_changed-other, children_changed}
use Rattle.tree_state.proofs.ChildNames.{names_changed, rooted_changed}
use Rattle.tree_state.proofs.Entries.{at_text, apart_entries, find_holds, set_places, all_set, texts_set}

same_names : (es : List Place) (p : Path) (f : Node → Node) (k : String Global) (v w : code.Node) → w.names.keys ≡ v.names.keys → HasNames es (k, v) → HasNames (change p f es) (k, w)
same_names es p f k v w same h =
    ap (map string_bytes) same ∙ h ∙ sym (names_changed p (path_of (string_bytes k)) f es)

-- a node is as steady as before, since no node gets or loses a child
pub steady_changed : (p q : Path) (f : Node → Node) (n : Node) (es : List Place) → IsSteady es q n → IsSteady (change p f es) q n
steady_changed p q f n es h =
    record {
      versions = h.versions;
      acls = h.acls;
      came = h.came;
      went = subst (λ (names : List (List ℕ)). n.numbers.deletions + length names ≤ n.numbers.creations) (sym (children_changed p q f es)) h.went;
      short = h.short;
    }

all_steady : (p : Path) (f : Node → Node) (b : Node) (es : List Place) → find es p ≡ Some b → IsSteady es p (f b) → ((q : Path) (n : Node) → find es q ≡ Some n → IsSteady es q n)
    → (q : Path) (n : Node) → find (change p f es) q ≡ Some n → IsSteady (change p f es) q n
all_steady p f b es found new old q n h = elim (cases_Bool (same_path p q)) [
  | inl i ↦
      let here = same_path-true p q i in
      let now : find (change p f es) q ≡ Some (f b) = subst (λ (r : Path). find (change p f es) r ≡ Some (f b)) here (find_changed-same p f b es found) in
      let same : f b ≡ n = cc in
      steady_changed p q f n es (subst (λ (x : Node). IsSteady es q x) same (subst (λ (r : Path). IsSteady es r (f b)) here new))
  | inr i ↦ steady_changed p q f n es (old q n (sym (find_changed-other p q f es i) ∙ h))
]

-- A written node that has the names of the old one and is steady: the map holds the changed nodes.
pub change_holds : (t u : Places) (es : List Place) (text : List ℕ) (p : Path) (f : Node → Node) (v w : code.Node) → Holds t es → IsTextOf text p
    → lookup (at_text text) t.nodes.entries ≡ Some v → node_of w ≡ f (node_of v) → w.names.keys ≡ v.names.keys → IsSteady es p (f (node_of v))
    → u.nodes.entries ≡ set_value (at_text text) t.nodes.entries w → Holds u (change p f es)
change_holds t u es text p f v w h k l e same steady eu =
    record {
      places = subst (λ (xs : List Entry). Shuffles (map place_of xs) (change p f es)) (sym eu) (set_places t es text p f v w h k l e);
      apart = apart_changed p f es h.apart;
      texts = subst (All HasText) (sym eu) (texts_set (at_text text) t.nodes.entries w h.texts);
      names = subst (All (HasNames (change p f es))) (sym eu)
          (all_set (HasNames es) (HasNames (change p f es)) text p t.nodes.entries v w k h.texts (apart_entries t es h) l
          (λ x legal far n. n ∙ sym (names_changed p (path_at x) f es))
          (λ key here n. same_names es p f key v w same n) h.names);
      rooted = rooted_changed p f es h.rooted;
      steady = all_steady p f (node_of v) es (find_holds t es text p h k ∙ ap (option_map node_of) l) steady h.steady;
      short = λ q there. h.short q (sym (there_changed p q f es) ∙ there);
    }

-- the node that is found is that of the map
node_held : (t : Places) (es : List Place) (text : List ℕ) (p : Path) (node : Node) (v : code.Node) → Holds t es → IsTextOf text p → find es p ≡ Some node → lookup (at_text text) t.nodes.entries ≡ Some v
    → node ≡ node_of v
node_held t es text p node v h k found l = let e = find_holds t es text p h k ∙ ap (option_map node_of) l in cc

-- a node that is found is in the map
pub not_missing : (t : Places) (es : List Place) (text : List ℕ) (p : Path) (node : Node) → Holds t es → IsTextOf text p → find es p ≡ Some node → lookup (at_text text) t.nodes.entries ≡ None → ⊥
not_missing t es text p node h k found l = let e = find_holds t es text p h k ∙ ap (option_map node_of) l in absurd cc

steady_acl : (es : List Place) (p : Path) (n : Node) → n.numbers.aversion < greatest_int → IsSteady es p n → IsSteady es p (with_acl n)
unfolding with_acl
steady_acl es p n low h = let less = low in record { versions = h.versions; acls = omega arith; came = h.came; went = h.went; short = h.short }

steady_content : (es : List Place) (p : Path) (at : Moment) (content : Option (List ℕ)) (n : Node) → n.numbers.version < greatest_int → size_of content ≤ content_limit → IsSteady es p n
    → IsSteady es p (with_content at content n)
unfolding with_content
steady_content es p at content n low short h = let less = low in record { versions = omega arith; acls = h.acls; came = h.came; went = h.went; short = short }

pub acl_counted : (t u : Places) (es : List Place) (text : List ℕ) (p : Path) (node : Node) (v w : code.Node) → Holds t es → IsTextOf text p → find es p ≡ Some node
    → node.numbers.aversion < greatest_int → lookup (at_text text) t.nodes.entries ≡ Some v
    → (v.numbers.aversion < greatest_int → node_of w ≡ with_acl (node_of v)) → w.names.keys ≡ v.names.keys
    → u.nodes.entries ≡ set_value (at_text text) t.nodes.entries w → Holds u (change p with_acl es)
unfolding node_of
acl_counted t u es text p node v w h k found low l plain same eu =
    let e = node_held t es text p node v h k found l in
    let less = subst (λ (n : Node). n.numbers.aversion < greatest_int) e low in
    let steady = h.steady p (node_of v) (found ∙ ap Some e) in
    change_holds t u es text p with_acl v w h k l (plain less) same (steady_acl es p (node_of v) less steady) eu

pub content_changed : (t u : Places) (es : List Place) (text : List ℕ) (p : Path) (node : Node) (at : Moment) (content : Option (List ℕ)) (v w : code.Node) → Holds t es → IsTextOf text p
    → find es p ≡ Some node → node.numbers.version < greatest_int → size_of content ≤ content_limit → lookup (at_text text) t.nodes.entries ≡ Some v
    → (v.numbers.version < greatest_int → node_of w ≡ with_content at content (node_of v)) → w.names.keys ≡ v.names.keys
    → u.nodes.entries ≡ set_value (at_text text) t.nodes.entries w → Holds u (change p (with_content at content) es)
unfolding node_of
content_changed t u es text p node at content v w h k found low short l plain same eu =
    let e = node_held t es text p node v h k found l in
    let less = subst (λ (n : Node). n.numbers.version < greatest_int) e low in
    let steady = h.steady p (node_of v) (found ∙ ap Some e) in
    change_holds t u es text p (with_content at content) v w h k l (plain less) same (steady_content es p at content (node_of v) less short steady) eu
