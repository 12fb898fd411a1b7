-- The entries of the map, as nodes at paths.
use Rattle.std.proofs.Common.{◌≡◌, ℕ, Bool, true, false, cond, List, [], ◌∷◌, ◌++◌, Some, Ordering, Less, Equal, Greater, String, Global, string_bytes, string_cmp, is_eq, nat_cmp, map, option_map, not, filter, refl, sym, ap, subst, ◌∙◌}
use Rattle.std.specs.Prelude.{All}
use Rattle.std.specs.Ordering.{match_ordering}
use Rattle.std.specs.Cmp.Lexicographic.{slice_cmp}
use Rattle.std.specs.Map.{lookup, set_value, remove_entry}
use Rattle.std.specs.BTreeMap.{insert_entry}
use Rattle.std.proofs.lemmas.List.Elements.{All-nil, All-cons, All-head, All-tail}
use Rattle.std.proofs.lemmas.Map.Text.{is_eq-slice_cmp}
use Rattle.std.proofs.lemmas.Slice.Eq.{bytes_eq-Decides}
use Rattle.zk_path.specs.Paths.{text_of, IsTextOf}
use Rattle.tree_state.specs.declared.node.Node as code
use Rattle.tree_state.specs.declared.places.Places.{Places}
use Rattle.tree_state.specs.Nodes.{Path, Node, Place, same_path, find, is_there, changed_at, change, add, is_elsewhere, remove}
use Rattle.tree_state.specs.Places.{path_of, Entry, path_at, node_of, place_of, HasText, IsApart, Holds}
use Rattle.tree_state.proofs.SamePaths.{same_path-true, same_path-from}
use Rattle.tree_state.proofs.Reorder.{Shuffles, kept, joined, swapped, same_order, Shuffles-sym, back-Shuffles, there-Shuffles, apart-Shuffles, find-Shuffles, change-Shuffles, remove-Shuffles, there_first, absent_behind, absent_first}
use Rattle.tree_state.proofs.Found.{change_absent, remove_absent}
use Rattle.tree_state.proofs.PathTexts.{path_of-IsTextOf, one_path, IsTextOf-path_of}

-- the test of a key against a text, as the map makes it
abbrev pub at_text : List ℕ → String Global → Bool
at_text text k = is_eq (slice_cmp nat_cmp text (string_bytes k))

equal_texts : (x y : List ℕ) → is_eq (slice_cmp nat_cmp x y) ≡ true → x ≡ y
equal_texts x y h = (bytes_eq-Decides x y).0 (sym (is_eq-slice_cmp x y) ∙ h)

texts_equal : (x y : List ℕ) → x ≡ y → is_eq (slice_cmp nat_cmp x y) ≡ true
texts_equal x y h = is_eq-slice_cmp x y ∙ (bytes_eq-Decides x y).1 h

tests_agree : (a b : Bool) → (a ≡ true → b ≡ true) → (b ≡ true → a ≡ true) → a ≡ b
tests_agree true true f g = refl
tests_agree true false f g = sym (f refl)
tests_agree false true f g = g refl
tests_agree false false f g = refl

-- a key is tested by its text as by its path
pub keys_agree : (text : List ℕ) (p : Path) (e : Entry) → IsTextOf text p → HasText e → same_path (path_at e) p ≡ at_text text e.0
keys_agree text p e h k = tests_agree _ _
    (λ t. texts_equal text (string_bytes e.0) (h.spelled ∙ ap text_of (sym (same_path-true (path_at e) p t)) ∙ sym k.spelled))
    (λ t. same_path-from (path_at e) p (one_path (string_bytes e.0) (path_at e) p k (subst (λ (x : List ℕ). IsTextOf x p) (equal_texts text (string_bytes e.0) t) h)))

-- ---- what is found

pub find_entries : (text : List ℕ) (p : Path) (es : List Entry) → IsTextOf text p → All HasText es → find (map place_of es) p ≡ option_map node_of (lookup (at_text text) es)
unfolding find place_of
find_entries text p [] h a = refl
find_entries text p (e ∷ es) h a =
    go (same_path (path_at e) p) (at_text text e.0) (keys_agree text p e h (All-head HasText e es a)) (find_entries text p es h (All-tail HasText e es a))
  where
    go : (b c : Bool) → b ≡ c → find (map place_of es) p ≡ option_map node_of (lookup (at_text text) es)
        → cond b (Some (node_of e.1)) (find (map place_of es) p) ≡ option_map node_of (cond c (Some e.1) (lookup (at_text text) es))
    go true true k m = refl
    go true false k m = absurd cc
    go false true k m = absurd cc
    go false false k m = m

pub apart_entries : (t : Places) (es : List Place) → Holds t es → IsApart (map place_of t.nodes.entries)
apart_entries t es h = apart-Shuffles _ _ (Shuffles-sym _ _ h.places) h.apart

-- what is found in the map is what is found among the nodes
pub find_holds : (t : Places) (es : List Place) (text : List ℕ) (p : Path) → Holds t es → IsTextOf text p → find es p ≡ option_map node_of (lookup (at_text text) t.nodes.entries)
find_holds t es text p h k =
    sym (find-Shuffles p _ _ h.places (apart_entries t es h)) ∙ find_entries text p t.nodes.entries k h.texts

pub there_holds : (t : Places) (es : List Place) (p : Path) → Holds t es → is_there (map place_of t.nodes.entries) p ≡ is_there es p
there_holds t es p h = there-Shuffles p _ _ h.places

-- ---- a value is written

pub set_entries : (text : List ℕ) (p : Path) (f : Node → Node) (es : List Entry) (v w : code.Node) → IsTextOf text p → All HasText es → IsApart (map place_of es)
    → lookup (at_text text) es ≡ Some v → node_of w ≡ f (node_of v) → map place_of (set_value (at_text text) es w) ≡ change p f (map place_of es)
unfolding change IsApart place_of changed_at
set_entries text p f [] v w h a apart l e = absurd cc
set_entries text p f (x ∷ es) v w h a apart l e =
    go (same_path (path_at x) p) (at_text text x.0) refl (keys_agree text p x h (All-head HasText x es a)) l (λ m. set_entries text p f es v w h (All-tail HasText x es a) apart.1 m e)
  where
    go : (b c : Bool) → same_path (path_at x) p ≡ b → b ≡ c → cond c (Some x.1) (lookup (at_text text) es) ≡ Some v
        → (lookup (at_text text) es ≡ Some v → map place_of (set_value (at_text text) es w) ≡ change p f (map place_of es))
        → map place_of (cond c ((x.0, w) ∷ es) (x ∷ set_value (at_text text) es w)) ≡ cond b (record { path = path_at x; node = f (node_of x.1) }) (record { path = path_at x; node = node_of x.1 }) ∷ map (changed_at p f) (map place_of es)
    go true true i k m ih =
        let same = same_path-true (path_at x) p i in
        let absent : is_there (map place_of es) p ≡ false = subst (λ (q : Path). is_there (map place_of es) q ≡ false) same apart.0 in
        let unchanged = change_absent p f (map place_of es) absent in
        let xv : x.1 ≡ v = cc in
        let u : node_of w ≡ f (node_of x.1) = e ∙ ap (λ (z : code.Node). f (node_of z)) (sym xv) in
        ap (λ (z : Node). record { path = path_at x; node = z } ∷ map place_of es) u
        ∙ ap (λ (l : List Place). record { path = path_at x; node = f (node_of x.1) } ∷ l) (sym unchanged)
    go true false i k m ih = absurd cc
    go false true i k m ih = absurd cc
    go false false i k m ih = ap (λ (l : List Place). place_of x ∷ l) (ih m)

-- the nodes after a value is written
pub set_places : (t : Places) (es : List Place) (text : List ℕ) (p : Path) (f : Node → Node) (v w : code.Node) → Holds t es → IsTextOf text p
    → lookup (at_text text) t.nodes.entries ≡ Some v → node_of w ≡ f (node_of v) → Shuffles (map place_of (set_value (at_text text) t.nodes.entries w)) (change p f es)
set_places t es text p f v w h k l e =
    subst (λ (xs : List Place). Shuffles xs (change p f es)) (sym (set_entries text p f t.nodes.entries v w k h.texts (apart_entries t es h) l e)) (change-Shuffles p f _ _ h.places)

-- ---- a new key

at_place : (e : Entry) (q : Path) → same_path (path_at e) q ≡ true → same_path (place_of e).path q ≡ true
unfolding place_of
at_place e q h = h

-- a new key is equal to no key of the map
not_equal : (k : String Global) (e : Entry) (ps : List Place) → is_there (place_of e ∷ ps) (path_of (string_bytes k)) ≡ false → string_cmp k e.0 ≡ Equal → ⊥
not_equal k e ps h i =
    let same = equal_texts (string_bytes k) (string_bytes e.0) (ap is_eq i) in
    let there = there_first ps (place_of e) (path_of (string_bytes k)) (at_place e (path_of (string_bytes k)) (same_path-from (path_at e) (path_of (string_bytes k)) (ap path_of (sym same)))) in
    absurd cc

pub insert_entries : (es : List Entry) (k : String Global) (v : code.Node) → is_there (map place_of es) (path_of (string_bytes k)) ≡ false
    → Shuffles (map place_of (insert_entry string_cmp es k v)) (place_of (k, v) ∷ map place_of es)
insert_entries [] k v h = same_order _
insert_entries (e ∷ es) k v h = go (string_cmp k e.0) refl (insert_entries es k v (absent_behind _ _ _ h))
  where
    go : (o : Ordering) → string_cmp k e.0 ≡ o → Shuffles (map place_of (insert_entry string_cmp es k v)) (place_of (k, v) ∷ map place_of es)
        → Shuffles (map place_of (match_ordering o ((k, v) ∷ e ∷ es) ((e.0, v) ∷ es) (e ∷ insert_entry string_cmp es k v))) (place_of (k, v) ∷ place_of e ∷ map place_of es)
    go Less i ih = same_order _
    go Equal i ih = absurd (not_equal k e (map place_of es) h i)
    go Greater i ih = joined _ (place_of e ∷ place_of (k, v) ∷ map place_of es) _ (kept (place_of e) _ _ ih) (swapped (place_of e) (place_of (k, v)) (map place_of es))

-- the nodes after an insert of a new key
pub insert_places : (t : Places) (es : List Place) (p : Path) (n : Node) (k : String Global) (x : code.Node) → Holds t es → IsTextOf (string_bytes k) p
    → node_of x ≡ n → is_there es p ≡ false → Shuffles (map place_of (insert_entry string_cmp t.nodes.entries k x)) (add p n es)
unfolding add place_of
insert_places t es p n k x h texts same absent =
    let here = path_of-IsTextOf (string_bytes k) p texts in
    let free : is_there (map place_of t.nodes.entries) (path_of (string_bytes k)) ≡ false = there_holds t es (path_of (string_bytes k)) h ∙ ap (is_there es) here ∙ absent in
    let one : place_of (k, x) ≡ record { path = p; node = n } = cc in
    let first = joined _ _ (place_of (k, x) ∷ es) (insert_entries t.nodes.entries k x free) (kept (place_of (k, x)) _ _ h.places) in
    let named = subst (λ (z : Place). Shuffles (map place_of (insert_entry string_cmp t.nodes.entries k x)) (z ∷ es)) one first in
    joined _ _ (es ++ record { path = p; node = n } ∷ []) named (back-Shuffles (record { path = p; node = n }) es)

-- ---- a key is taken out

pub remove_entries : (text : List ℕ) (p : Path) (es : List Entry) → IsTextOf text p → All HasText es → IsApart (map place_of es)
    → map place_of (remove_entry (at_text text) es) ≡ remove p (map place_of es)
unfolding remove IsApart place_of is_elsewhere
remove_entries text p [] h a apart = refl
remove_entries text p (x ∷ es) h a apart =
    go (same_path (path_at x) p) (at_text text x.0) refl (keys_agree text p x h (All-head HasText x es a)) (remove_entries text p es h (All-tail HasText x es a) apart.1)
  where
    go : (b c : Bool) → same_path (path_at x) p ≡ b → b ≡ c → map place_of (remove_entry (at_text text) es) ≡ filter (is_elsewhere p) (map place_of es)
        → map place_of (cond c es (x ∷ remove_entry (at_text text) es)) ≡ cond (not b) (record { path = path_at x; node = node_of x.1 } ∷ filter (is_elsewhere p) (map place_of es)) (filter (is_elsewhere p) (map place_of es))
    go true true i k ih =
        sym (remove_absent p (map place_of es) (subst (λ (q : Path). is_there (map place_of es) q ≡ false) (same_path-true (path_at x) p i) apart.0))
    go true false i k ih = absurd cc
    go false true i k ih = absurd cc
    go false false i k ih = ap (λ (l : List Place). place_of x ∷ l) ih

-- the nodes after a key is taken out
pub remove_places : (t : Places) (es : List Place) (text : List ℕ) (p : Path) → Holds t es → IsTextOf text p
    → Shuffles (map place_of (remove_entry (at_text text) t.nodes.entries)) (remove p es)
remove_places t es text p h k =
    subst (λ (xs : List Place). Shuffles xs (remove p es)) (sym (remove_entries text p t.nodes.entries k h.texts (apart_entries t es h))) (remove-Shuffles p _ _ h.places)

-- ---- what holds of each entry, after a change

-- a new key, of which it holds
pub all_inserted : (P : Entry → Type 0) (es : List Entry) (k : String Global) (v : code.Node) → is_there (map place_of es) (path_of (string_bytes k)) ≡ false → P (k, v) → All P es
    → All P (insert_entry string_cmp es k v)
all_inserted P [] k v h one a = All-cons P (k, v) [] one a
all_inserted P (e ∷ es) k v h one a = go (string_cmp k e.0) refl (all_inserted P es k v (absent_behind _ _ _ h) one (All-tail P e es a))
  where
    go : (o : Ordering) → string_cmp k e.0 ≡ o → All P (insert_entry string_cmp es k v) → All P (match_ordering o ((k, v) ∷ e ∷ es) ((e.0, v) ∷ es) (e ∷ insert_entry string_cmp es k v))
    go Less i ih = All-cons P (k, v) (e ∷ es) one a
    go Equal i ih = absurd (not_equal k e (map place_of es) h i)
    go Greater i ih = All-cons P e (insert_entry string_cmp es k v) (All-head P e es a) ih

pub all_removed : (P : Entry → Type 0) (test : String Global → Bool) (es : List Entry) → All P es → All P (remove_entry test es)
all_removed P test [] a = a
all_removed P test (e ∷ es) a = go (test e.0) (all_removed P test es (All-tail P e es a))
  where
    go : (b : Bool) → All P (remove_entry test es) → All P (cond b es (e ∷ remove_entry test es))
    go true ih = All-tail P e es a
    go false ih = All-cons P e (remove_entry test es) (All-head P e es a) ih

all_elsewhere : (P Q : Entry → Type 0) (p : Path) (es : List Entry) → All HasText es → is_there (map place_of es) p ≡ false
    → ((e : Entry) → HasText e → same_path (path_at e) p ≡ false → P e → Q e) → All P es → All Q es
unfolding place_of
all_elsewhere P Q p [] texts absent other a = All-nil Q
all_elsewhere P Q p (e ∷ es) texts absent other a =
    All-cons Q e es (other e (All-head HasText e es texts) (absent_first (map place_of es) (place_of e) p absent) (All-head P e es a))
    (all_elsewhere P Q p es (All-tail HasText e es texts) (absent_behind (map place_of es) (place_of e) p absent) other (All-tail P e es a))

-- a value is written at a path: another thing holds of it, and of those elsewhere
pub all_set : (P Q : Entry → Type 0) (text : List ℕ) (p : Path) (es : List Entry) (v w : code.Node) → IsTextOf text p → All HasText es → IsApart (map place_of es)
    → lookup (at_text text) es ≡ Some v
    → ((e : Entry) → HasText e → same_path (path_at e) p ≡ false → P e → Q e)
    → ((k : String Global) → path_of (string_bytes k) ≡ p → P (k, v) → Q (k, w))
    → All P es → All Q (set_value (at_text text) es w)
unfolding IsApart place_of
all_set P Q text p [] v w h texts apart l other here a = absurd cc
all_set P Q text p (x ∷ es) v w h texts apart l other here a =
    go (same_path (path_at x) p) (at_text text x.0) refl (keys_agree text p x h (All-head HasText x es texts)) l
    (λ m. all_set P Q text p es v w h (All-tail HasText x es texts) apart.1 m other here (All-tail P x es a))
  where
    go : (b c : Bool) → same_path (path_at x) p ≡ b → b ≡ c → cond c (Some x.1) (lookup (at_text text) es) ≡ Some v
        → (lookup (at_text text) es ≡ Some v → All Q (set_value (at_text text) es w))
        → All Q (cond c ((x.0, w) ∷ es) (x ∷ set_value (at_text text) es w))
    go true true i k m ih =
        let same = same_path-true (path_at x) p i in
        let absent : is_there (map place_of es) p ≡ false = subst (λ (q : Path). is_there (map place_of es) q ≡ false) same apart.0 in
        let xv : x.1 ≡ v = cc in
        All-cons Q (x.0, w) es (here x.0 same (subst (λ (z : code.Node). P (x.0, z)) xv (All-head P x es a)))
        (all_elsewhere P Q p es (All-tail HasText x es texts) absent other (All-tail P x es a))
    go true false i k m ih = absurd cc
    go false true i k m ih = absurd cc
    go false false i k m ih = All-cons Q x (set_value (at_text text) es w) (other x (All-head HasText x es texts) i (All-head P x es a)) (ih m)

-- the keys are texts of paths

pub texts_inserted : (t : Places) (es : List Place) (p : Path) (k : String Global) (x : code.Node) → Holds t es → IsTextOf (string_bytes k) p → is_there es p ≡ false
    → All HasText (insert_entry string_cmp t.nodes.entries k x)
texts_inserted t es p k x h texts absent =
    all_inserted HasText t.nodes.entries k x (there_holds t es (path_of (string_bytes k)) h ∙ ap (is_there es) (path_of-IsTextOf (string_bytes k) p texts) ∙ absent)
    (IsTextOf-path_of (string_bytes k) p texts) h.texts

pub texts_removed : (test : String Global → Bool) (es : List Entry) → All HasText es → All HasText (remove_entry test es)
texts_removed test es a = all_removed HasText test es a

pub texts_set : (test : String Global → Bool) (es : List Entry) (w : code.Node) → All HasText es → All HasText (set_value test es w)
texts_set test [] w a = a
texts_set test (e ∷ es) w a = go (test e.0) (texts_set test es w (All-tail HasText e es a))
  where
    go : (b : Bool) → All HasText (set_value test es w) → All HasText (cond b ((e.0, w) ∷ es) (e ∷ set_value test es w))
    go true ih = All-cons HasText (e.0, w) es (All-head HasText e es a) (All-tail HasText e es a)
    go false ih = All-cons HasText e (set_value test es w) (All-head HasText e es a) ih
