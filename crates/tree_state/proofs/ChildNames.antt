-- The names of a node's children after each change of the nodes.
use Rattle.std.proofs.Common.{◌≡◌, ℕ, ◌+◌, Bool, true, false, cond, not, List, [], ◌∷◌, Some, None, length, refl, sym, ap, subst, ◌∙◌, arith, inl, inr}
use Rattle.std.specs.Prelude.{◌&&◌, ◌||◌, ◌==◌}
use Rattle.std.specs.List.{cons_option}
use Rattle.std.specs.Str.{bytes_eq}
use Rattle.std.proofs.lemmas.Bool.{cases_Bool, eqb-true}
use Rattle.std.proofs.lemmas.List.{nil_from_length, length-append}
use Rattle.std.proofs.lemmas.Slice.Eq.{bytes_eq-Decides}
use Rattle.tree_state.specs.Nodes.{Path, Node, Place, same_path, is_there, change, add, remove, name_under, name_of_child, children, child_names, has_children, placed, in_order}
use Rattle.tree_state.specs.Places.{IsApart, IsRooted}
use Rattle.tree_state.specs.Shuffles.{Shuffles, nothing, kept, swapped, joined}
use Rattle.tree_state.proofs.ByteOrder.{in_order-Shuffles, Shuffles-in_order}
use Rattle.tree_state.proofs.Reorder.{length-Shuffles, front-Shuffles}
use Rattle.tree_state.proofs.SamePaths.{same_path-true, same_path-from, same_path-sym}
use Rattle.tree_state.proofs.Found.{there_changed, children_changed, there_added-same, there_added-other, children_added-same, children_added-other, there_removed-same, there_removed-other, children_removed-same, children_removed-other}
use Rattle.tree_state.proofs.NameSets.{has_name}

-- ---- the list and its order

has_name-Shuffles : (n : List ℕ) (xs ys : List (List ℕ)) → Shuffles xs ys → has_name n xs ≡ has_name n ys
has_name-Shuffles n xs ys nothing = refl
has_name-Shuffles n xs ys (kept x us vs h) = ap (λ (b : Bool). bytes_eq x n || b) (has_name-Shuffles n us vs h)
has_name-Shuffles n xs ys (swapped x y us) = crossed (bytes_eq x n) (bytes_eq y n) (has_name n us)
  where
    crossed : (a b c : Bool) → (a || (b || c)) ≡ (b || (a || c))
    crossed true true c = refl
    crossed true false c = refl
    crossed false true c = refl
    crossed false false c = refl
has_name-Shuffles n xs ys (joined us vs ws h k) = has_name-Shuffles n us vs h ∙ has_name-Shuffles n vs ws k

same_path-flips : (p q : Path) → same_path p q ≡ same_path q p
same_path-flips p q =
    elim (cases_Bool (same_path p q)) [
      | inl k ↦ let e = same_path-from q p (sym (same_path-true p q k)) in cc
      | inr k ↦ let e = same_path-sym p q k in cc
    ]

-- the children of a path have a name where a node with it is under the path
has_child : (n : List ℕ) (p : Path) (es : List Place) → has_name n (children p es) ≡ is_there es (n ∷ p)
unfolding children is_there name_of_child name_under same_path
has_child n p [] = refl
has_child n p (e ∷ es) = under e.path (has_child n p es)
  where
    by_tests : (a b c t : Bool) (m : List ℕ) → a ≡ b → bytes_eq m n ≡ c → has_name n (children p es) ≡ t
        → has_name n (cons_option (cond a (Some m) None) (children p es)) ≡ cond (b && c) true t
    by_tests true true true t m e f h = ap (λ (d : Bool). d || has_name n (children p es)) f
    by_tests true true false t m e f h = ap (λ (d : Bool). d || has_name n (children p es)) f ∙ h
    by_tests true false c t m e f h = absurd cc
    by_tests false true c t m e f h = absurd cc
    by_tests false false c t m e f h = h

    under : (q : Path) → has_name n (children p es) ≡ is_there es (n ∷ p)
        → has_name n (cons_option (name_under p q) (children p es)) ≡ cond (same_path q (n ∷ p)) true (is_there es (n ∷ p))
    under [] h = h
    under (m ∷ q) h = by_tests (same_path p q) (same_path q p) (bytes_eq m n) (is_there es (n ∷ p)) m (same_path-flips p q) refl h

pub has_child_name : (n : List ℕ) (p : Path) (es : List Place) → has_name n (child_names p es) ≡ is_there es (n ∷ p)
unfolding child_names
has_child_name n p es = sym (has_name-Shuffles n _ _ (Shuffles-in_order (children p es))) ∙ has_child n p es

-- ---- after each change

pub names_changed : (p q : Path) (f : Node → Node) (es : List Place) → child_names q (change p f es) ≡ child_names q es
unfolding child_names
names_changed p q f es = ap in_order (children_changed p q f es)

-- the parent of a new node has its name at its place
pub names_added-same : (n : List ℕ) (p : Path) (node : Node) (es : List Place) → child_names p (add (n ∷ p) node es) ≡ placed n (child_names p es)
unfolding child_names in_order
names_added-same n p node es = ap in_order (children_added-same n p node es) ∙ in_order-Shuffles _ _ (front-Shuffles n (children p es))

pub names_added-other : (n : List ℕ) (p q : Path) (node : Node) (es : List Place) → same_path q p ≡ false → child_names q (add (n ∷ p) node es) ≡ child_names q es
unfolding child_names
names_added-other n p q node es h = ap in_order (children_added-other n p q node es h)

-- the parent of a node that goes had its name at its place
pub names_removed-same : (n : List ℕ) (p : Path) (es : List Place) → IsApart es → is_there es (n ∷ p) ≡ true → child_names p es ≡ placed n (child_names p (remove (n ∷ p) es))
unfolding child_names in_order
names_removed-same n p es apart there = in_order-Shuffles _ _ (children_removed-same n p es apart there)

pub names_removed-other : (n : List ℕ) (p q : Path) (es : List Place) → same_path q p ≡ false → child_names q (remove (n ∷ p) es) ≡ child_names q es
unfolding child_names
names_removed-other n p q es h = ap in_order (children_removed-other n p q es h)

-- ---- how many children there are

pub count_added : (n : List ℕ) (p : Path) (node : Node) (es : List Place) → length (children p (add (n ∷ p) node es)) ≡ length (children p es) + 1
count_added n p node es = ap length (children_added-same n p node es) ∙ length-append (children p es) (n ∷ [])

pub count_removed : (n : List ℕ) (p : Path) (es : List Place) → IsApart es → is_there es (n ∷ p) ≡ true → length (children p es) ≡ length (children p (remove (n ∷ p) es)) + 1
count_removed n p es apart there = let e = length-Shuffles _ _ (children_removed-same n p es apart there) in omega arith

-- ---- a node stands under another one

-- a path that is not there has no children
pub no_children : (p : Path) (es : List Place) → IsRooted es → is_there es p ≡ false → children p es ≡ []
no_children p es rooted absent = by_first (children p es) refl
  where
    by_first : (ns : List (List ℕ)) → children p es ≡ ns → children p es ≡ []
    by_first [] e = e
    by_first (n ∷ ns) e =
        let first : has_name n (n ∷ ns) ≡ true = ap (λ (b : Bool). b || has_name n ns) ((bytes_eq-Decides n n).1 refl) in
        let there : is_there es (n ∷ p) ≡ true = sym (has_child n p es) ∙ ap (has_name n) e ∙ first in
        let up = rooted n p there in absurd cc

-- nor has it child names
pub no_names : (p : Path) (es : List Place) → IsRooted es → is_there es p ≡ false → child_names p es ≡ []
unfolding child_names in_order
no_names p es rooted absent = ap in_order (no_children p es rooted absent)

pub rooted_changed : (p : Path) (f : Node → Node) (es : List Place) → IsRooted es → IsRooted (change p f es)
rooted_changed p f es rooted = λ n q h. there_changed p q f es ∙ rooted n q (sym (there_changed p (n ∷ q) f es) ∙ h)

there_more : (p q : Path) (node : Node) (es : List Place) → is_there es q ≡ true → is_there (add p node es) q ≡ true
there_more p q node es h =
    elim (cases_Bool (same_path p q)) [
      | inl k ↦ subst (λ (r : Path). is_there (add p node es) r ≡ true) (same_path-true p q k) (there_added-same p node es)
      | inr k ↦ there_added-other p q node es k ∙ h
    ]

pub rooted_added : (n : List ℕ) (p : Path) (node : Node) (es : List Place) → is_there es p ≡ true → IsRooted es → IsRooted (add (n ∷ p) node es)
rooted_added n p node es up rooted = λ m q h.
    elim (cases_Bool (same_path (n ∷ p) (m ∷ q))) [
      | inl k ↦
          let e : p ≡ q = let s = same_path-true (n ∷ p) (m ∷ q) k in cc in
          there_more (n ∷ p) q node es (subst (λ (r : Path). is_there es r ≡ true) e up)
      | inr k ↦ there_more (n ∷ p) q node es (rooted m q (sym (there_added-other (n ∷ p) (m ∷ q) node es k) ∙ h))
    ]

there_before : (p q : Path) (es : List Place) → is_there (remove p es) q ≡ true → (same_path p q ≡ false) × (is_there es q ≡ true)
there_before p q es h =
    elim (cases_Bool (same_path p q)) [
      | inl k ↦ let e = subst (λ (r : Path). is_there (remove p es) r ≡ false) (same_path-true p q k) (there_removed-same p es) in absurd cc
      | inr k ↦ (k, sym (there_removed-other p q es k) ∙ h)
    ]

none_under : (m : List ℕ) (p : Path) (es : List Place) → has_children p es ≡ false → is_there es (m ∷ p) ≡ false
unfolding has_children
none_under m p es h = sym (has_child m p es) ∙ ap (has_name m) (nil_from_length _ (eqb-true _ _ (not_not (length (children p es) == 0) h)))
  where
    not_not : (b : Bool) → not b ≡ false → b ≡ true
    not_not true k = refl
    not_not false k = absurd cc

-- a node without children goes
pub rooted_removed : (p : Path) (es : List Place) → has_children p es ≡ false → IsRooted es → IsRooted (remove p es)
rooted_removed p es none rooted = λ m q h.
    let before = there_before p (m ∷ q) es h in
    elim (cases_Bool (same_path p q)) [
      | inl k ↦
          let e = subst (λ (r : Path). is_there es (m ∷ r) ≡ true) (sym (same_path-true p q k)) before.1 in
          let f = none_under m p es none in absurd cc
      | inr k ↦ there_removed-other p q es k ∙ rooted m q before.1
    ]
