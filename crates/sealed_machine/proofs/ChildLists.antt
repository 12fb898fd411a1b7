-- The names of a child list, sealed and in any order, open to the plain ones in byte order.
use Rattle.std.proofs.Common.{◌≡◌, ◌<◌, ℕ, zero, suc, Bool, true, false, cond, List, [], ◌∷◌, Option, Some, None, length, inl, inr, refl, sym, ap, subst, ◌∙◌, arith}
use Rattle.std.specs.Prelude.{◌&&◌, ◌||◌, ◌==◌, nat_lt}
use Rattle.std.specs.BTreeSet.{insert_key}
use Rattle.std.specs.List.{cons_option}
use Rattle.std.specs.List.Sorted.{IsStrictlySortedBy}
use Rattle.std.specs.Ordering.{is_eq, is_le, nat_cmp, match_ordering, ordering_then}
use Rattle.std.specs.Str.{bytes_eq}
use Rattle.std.specs.Cmp.Lexicographic.{slice_cmp}
use Rattle.std.specs.declared.cmp.Ordering.{Ordering}
use Rattle.std.specs.declared.cmp.Ordering.TheVariants.{Less, Equal, Greater}
use Rattle.std.proofs.lemmas.Bool.{cases_Bool}
use Rattle.std.proofs.lemmas.Map.Text.{is_eq-slice_cmp}
use Rattle.std.proofs.lemmas.Slice.Eq.{bytes_eq-Decides}
use Rattle.path_seal.specs.Sealed.{Keys, AreKeys, OpensName}
use Rattle.reply_rewrite.specs.Children.{byte_order, IsOneOf, name_at, ArePlainNames}
use Rattle.reply_rewrite.proofs.Sets.{inserted_ascends}
use Rattle.tree_state.proofs.SamePaths.{same_path-true}
use Rattle.tree_state.specs.Nodes.{Path, Place, same_path, text_le, placed, in_order, is_there, name_under, name_of_child, children, child_names}
use Rattle.tree_state.specs.Places.{IsApart}
use Rattle.tree_state.specs.Shuffles.{Shuffles, nothing, kept, swapped, joined}
use Rattle.tree_state.proofs.ByteOrder.{placed_before, placed_after, placed_alone, Shuffles-in_order}
use Rattle.tree_state.proofs.Reorder.{length-Shuffles, Shuffles-sym}
use Rattle.tree_state.proofs.NameSets.{has_name}
use Rattle.tree_state.proofs.ChildNames.{has_child_name}
use Rattle.store_side.proofs.Zipping.{Zips, length_zips}
use Rattle.sealed_machine.proofs.SealedNames.{one_name}
use Rattle.sealed_machine.proofs.SealedStates.{SealsName}

-- ---- related lists in another order

pub Zips-Shuffles : {A B : Type 0} (R : A → B → Type 0) (xs : List A) (ys zs : List B) → Shuffles ys zs → Zips R xs ys → (ws : List A) × Shuffles xs ws × Zips R ws zs
unfolding Zips
Zips-Shuffles R [] ys zs nothing h = ([], nothing, h)
Zips-Shuffles R (x ∷ xs) ys zs nothing h = absurd h
Zips-Shuffles R [] ys zs (kept y us vs k) h = absurd h
Zips-Shuffles R (x ∷ xs) ys zs (kept y us vs k) h =
    let r = Zips-Shuffles R xs us vs k h.1 in (x ∷ r.0, kept x xs r.0 r.1, (h.0, r.2))
Zips-Shuffles R [] ys zs (swapped y z us) h = absurd h
Zips-Shuffles R (x ∷ []) ys zs (swapped y z us) h = absurd h.1
Zips-Shuffles R (x ∷ w ∷ xs) ys zs (swapped y z us) h = (w ∷ x ∷ xs, swapped x w xs, (h.1.0, (h.0, h.1.1)))
Zips-Shuffles R xs ys zs (joined us vs ws k l) h =
    let r = Zips-Shuffles R xs us vs k h in
    let q = Zips-Shuffles R r.0 vs ws l r.2 in
    (q.0, joined xs r.0 q.0 r.1 q.1, q.2)

has_name-Shuffles : (n : List ℕ) (xs ys : List (List ℕ)) → Shuffles xs ys → has_name n xs ≡ has_name n ys
has_name-Shuffles n xs ys nothing = refl
has_name-Shuffles n xs ys (kept x us vs h) = ap (λ (b : Bool). bytes_eq x n || b) (has_name-Shuffles n us vs h)
has_name-Shuffles n xs ys (swapped x y us) = crossed (bytes_eq x n) (bytes_eq y n) (has_name n us)
  where
    crossed : (a b c : Bool) → (a || (b || c)) ≡ (b || (a || c))
    crossed true true c = refl
    crossed true false c = refl
    crossed false true c = refl
    crossed false false c = refl
has_name-Shuffles n xs ys (joined us vs ws h k) = has_name-Shuffles n us vs h ∙ has_name-Shuffles n vs ws k

-- ---- no name stands twice

unfoldable pub AreSingle : List (List ℕ) → Type 0
AreSingle [] = Unit {0}
AreSingle (n ∷ ns) = (has_name n ns ≡ false) × AreSingle ns

first_not : (a b : Bool) → (a || b) ≡ false → (a ≡ false) × (b ≡ false)
first_not true b h = absurd cc
first_not false b h = (refl, h)

other_way : (a b : List ℕ) → bytes_eq a b ≡ false → bytes_eq b a ≡ false
other_way a b h = elim (cases_Bool (bytes_eq b a)) [ inl t ↦ let e = (bytes_eq-Decides b a).0 t in let f = (bytes_eq-Decides a b).1 (sym e) in absurd cc | inr f ↦ f ]

single-Shuffles : (xs ys : List (List ℕ)) → Shuffles xs ys → AreSingle xs → AreSingle ys
unfolding AreSingle
single-Shuffles xs ys nothing h = h
single-Shuffles xs ys (kept x us vs k) h = (sym (has_name-Shuffles x us vs k) ∙ h.0, single-Shuffles us vs k h.1)
single-Shuffles xs ys (swapped x y us) h =
    let a = first_not (bytes_eq y x) (has_name x us) h.0 in
    ((let e = other_way y x a.0 in ap (λ (b : Bool). b || has_name y us) e ∙ h.1.0), (a.1, h.1.1))
single-Shuffles xs ys (joined us vs ws k l) h = single-Shuffles vs ws l (single-Shuffles us vs k h)

has_child : (n : List ℕ) (p : Path) (es : List Place) → has_name n (children p es) ≡ is_there es (n ∷ p)
unfolding child_names
has_child n p es = has_name-Shuffles n (children p es) (in_order (children p es)) (Shuffles-in_order (children p es)) ∙ has_child_name n p es

name_under_is : (p q : Path) (n : List ℕ) → name_under p q ≡ Some n → n ∷ p ≡ q
unfolding name_under
name_under_is p [] n e = absurd cc
name_under_is p (m ∷ q) n e = elim (cases_Bool (same_path p q)) [
  | inl t ↦ let f = same_path-true p q t in
      let x : cond (same_path p q) (Some m) None ≡ Some m = ap (λ (b : Bool). cond b (Some m) None) t in
      let g : Some m ≡ Some n = sym x ∙ e in
      let j : m ≡ n = cc in (λ i. sym j i ∷ f i)
  | inr t ↦ let x : cond (same_path p q) (Some m) None ≡ None = ap (λ (b : Bool). cond b (Some m) None) t in
      let g : None ≡ Some n = sym x ∙ e in absurd cc
]

-- the names of the children are all different
pub singles : (p : Path) (es : List Place) → IsApart es → AreSingle (children p es)
unfolding AreSingle IsApart children name_of_child
singles p [] h = tt
singles p (e ∷ es) h = go e.path h.0 (singles p es h.1) (λ n. has_child n p es)
  where
    under : (q : Path) (o : Option (List ℕ)) → name_under p q ≡ o → is_there es q ≡ false → AreSingle (children p es)
        → ((n : List ℕ) → has_name n (children p es) ≡ is_there es (n ∷ p)) → AreSingle (cons_option o (children p es))
    under q None e i m c = m
    under q (Some n) e i m c = (c n ∙ ap (is_there es) (name_under_is p q n e) ∙ i, m)

    go : (q : Path) → is_there es q ≡ false → AreSingle (children p es) → ((n : List ℕ) → has_name n (children p es) ≡ is_there es (n ∷ p))
        → AreSingle (cons_option (name_under p q) (children p es))
    go q i m c = under q (name_under p q) refl i m c

-- ---- the order

le_by_cmp : (x y : List ℕ) → text_le x y ≡ is_le (slice_cmp nat_cmp x y)
unfolding text_le
le_by_cmp [] [] = refl
le_by_cmp [] (b ∷ y) = refl
le_by_cmp (a ∷ x) [] = refl
le_by_cmp (a ∷ x) (b ∷ y) = by_first (nat_lt a b) (a == b) (text_le x y) (slice_cmp nat_cmp x y) (le_by_cmp x y)
  where
    by_first : (l e t : Bool) (o : Ordering) → t ≡ is_le o → (l || (e && t)) ≡ is_le (ordering_then (cond l Less (cond e Equal Greater)) o)
    by_first true e t o h = refl
    by_first false true t o h = h
    by_first false false t o h = refl

-- a new name goes to its place
inserts : (n : List ℕ) (ms : List (List ℕ)) → has_name n ms ≡ false → insert_key byte_order ms n ≡ placed n ms
inserts n [] h = sym (placed_alone n)
inserts n (x ∷ ms) h =
    let apart = first_not (bytes_eq x n) (has_name n ms) h in
    go (byte_order n x) refl apart.0 (inserts n ms apart.1)
  where
    go : (o : Ordering) → byte_order n x ≡ o → bytes_eq x n ≡ false → insert_key byte_order ms n ≡ placed n ms
        → match_ordering o (n ∷ x ∷ ms) (x ∷ ms) (x ∷ insert_key byte_order ms n) ≡ placed n (x ∷ ms)
    go Less i apart ih = sym (placed_before n x ms (le_by_cmp n x ∙ ap is_le i))
    go Equal i apart ih =
        let f : bytes_eq n x ≡ true = sym (is_eq-slice_cmp n x) ∙ ap is_eq i in
        let e = (bytes_eq-Decides n x).0 f in let g = (bytes_eq-Decides x n).1 (sym e) in absurd cc
    go Greater i apart ih = ap (λ (l : List (List ℕ)). x ∷ l) ih ∙ sym (placed_after n x ms (le_by_cmp n x ∙ ap is_le i))

pub ascending : (xs : List (List ℕ)) → AreSingle xs → IsStrictlySortedBy byte_order (in_order xs)
unfolding AreSingle in_order IsStrictlySortedBy
ascending [] h = tt
ascending (x ∷ xs) h =
    subst (IsStrictlySortedBy byte_order) (inserts x (in_order xs) (sym (has_name-Shuffles x xs (in_order xs) (Shuffles-in_order xs)) ∙ h.0))
    (inserted_ascends x (in_order xs) (ascending xs h.1))

-- ---- by places

at_zips : (k : Keys) (p : Path) (xs ys : List (List ℕ)) → Zips (SealsName k p) xs ys → (i : ℕ) → i < length ys → SealsName k p (name_at xs i) (name_at ys i)
unfolding Zips
at_zips k p [] [] h i lt = absurd (omega (arith, lt))
at_zips k p [] (y ∷ ys) h i lt = absurd h
at_zips k p (x ∷ xs) [] h i lt = absurd h
at_zips k p (x ∷ xs) (y ∷ ys) h zero lt = h.0
at_zips k p (x ∷ xs) (y ∷ ys) h (suc i) lt = at_zips k p xs ys h.1 i (omega (arith, lt))

same_name : (k : Keys) → AreKeys k → (p : Path) (m a b : List ℕ) → OpensName k p m a → OpensName k p m b → a ≡ b
same_name k w p m a b h j = one_name k w p a b h.0 j.0 (h.1 ∙ sym j.1)

opens_name : (k : Keys) (p : Path) (n m : List ℕ) → SealsName k p n m → OpensName k p m n
opens_name k p n m h = (h.legal, sym h.is)

not_in : (n : List ℕ) (ns : List (List ℕ)) → has_name n ns ≡ false → (i : ℕ) → i < length ns → name_at ns i ≡ n → ⊥
not_in n [] h i lt e = omega (arith, lt)
not_in n (m ∷ ns) h zero lt e = let a = first_not (bytes_eq m n) (has_name n ns) h in let t = (bytes_eq-Decides m n).1 e in absurd cc
not_in n (m ∷ ns) h (suc i) lt e = not_in n ns (first_not (bytes_eq m n) (has_name n ns) h).1 i (omega (arith, lt)) e

-- in a list without doubles no name stands earlier too
no_earlier : (xs : List (List ℕ)) → AreSingle xs → (i j : ℕ) → j < i → i < length xs → name_at xs j ≡ name_at xs i → ⊥
unfolding AreSingle
no_earlier [] h i j l lt e = omega (arith, lt)
no_earlier (x ∷ xs) h zero j l lt e = omega (arith, l)
no_earlier (x ∷ xs) h (suc i) zero l lt e = not_in x xs h.0 i (omega (arith, lt)) (sym e)
no_earlier (x ∷ xs) h (suc i) (suc j) l lt e = no_earlier xs h.1 i j (omega (arith, l)) (omega (arith, lt)) e

one_of_at : (n : List ℕ) (xs : List (List ℕ)) → IsOneOf n xs → (i : ℕ) × (i < length xs) × (name_at xs i ≡ n)
one_of_at n [] h = absurd h
one_of_at n (x ∷ xs) (inl e) = (0, omega arith, sym e)
one_of_at n (x ∷ xs) (inr h) = let r = one_of_at n xs h in (suc r.0, omega (arith, r.1), r.2)

pub at_one_of : (xs : List (List ℕ)) (i : ℕ) → i < length xs → IsOneOf (name_at xs i) xs
at_one_of [] i lt = omega (arith, lt)
at_one_of (x ∷ xs) zero lt = inl refl
at_one_of (x ∷ xs) (suc i) lt = inr (at_one_of xs i (omega (arith, lt)))

one_of-Shuffles : (n : List ℕ) (xs ys : List (List ℕ)) → Shuffles xs ys → IsOneOf n xs → IsOneOf n ys
one_of-Shuffles n xs ys nothing h = h
one_of-Shuffles n xs ys (kept x us vs k) (inl e) = inl e
one_of-Shuffles n xs ys (kept x us vs k) (inr h) = inr (one_of-Shuffles n us vs k h)
one_of-Shuffles n xs ys (swapped x y us) (inl e) = inr (inl e)
one_of-Shuffles n xs ys (swapped x y us) (inr (inl e)) = inl e
one_of-Shuffles n xs ys (swapped x y us) (inr (inr h)) = inr (inr h)
one_of-Shuffles n xs ys (joined us vs ws k l) h = one_of-Shuffles n vs ws l (one_of-Shuffles n us vs k h)

-- names in one order, their sealed forms in the same, and a list of all names in another order
record IsOpened (k : Keys) (p : Path) (ms xs plain : List (List ℕ)) : Type 0 where
  sealed : Zips (SealsName k p) xs ms
  single : AreSingle xs
  order : Shuffles xs plain

opened_names : (k : Keys) → AreKeys k → (p : Path) (ms xs plain : List (List ℕ)) → IsOpened k p ms xs plain → IsStrictlySortedBy byte_order plain → ArePlainNames k p ms plain
opened_names k w p ms xs plain h up =
    let size : length xs ≡ length ms = length_zips (SealsName k p) xs ms h.sealed in
    record {
      good = record {
        opens = λ i lt. (name_at xs i, opens_name k p _ _ (at_zips k p xs ms h.sealed i lt));
        apart = λ i lt e. no_earlier xs h.single i e.0 e.1 (omega (arith, lt, size))
            (same_name k w p (name_at ms i) (name_at xs e.0) (name_at xs i)
            (subst (λ (m : List ℕ). OpensName k p m (name_at xs e.0)) e.2 (opens_name k p _ _ (at_zips k p xs ms h.sealed e.0 (omega (arith, lt, e.1)))))
            (opens_name k p _ _ (at_zips k p xs ms h.sealed i lt)));
      };
      opened = record {
        those = λ n. (
          (λ o. let r = one_of_at n xs (one_of-Shuffles n plain xs (Shuffles-sym xs plain h.order) o) in
              let lt : r.0 < length ms = omega (arith, r.1, size) in
              (r.0, lt, subst (λ (x : List ℕ). OpensName k p (name_at ms r.0) x) r.2 (opens_name k p _ _ (at_zips k p xs ms h.sealed r.0 lt)))),
          (λ r. let same : n ≡ name_at xs r.0 = same_name k w p (name_at ms r.0) n (name_at xs r.0) r.2 (opens_name k p _ _ (at_zips k p xs ms h.sealed r.0 r.1)) in
              one_of-Shuffles n xs plain h.order (subst (λ (x : List ℕ). IsOneOf x xs) (sym same) (at_one_of xs r.0 (omega (arith, r.1, size))))),
        );
        counted = sym (length-Shuffles xs plain h.order) ∙ size;
      };
      ascending = up;
    }

-- what the names of children, each sealed, are opened to, in whatever order they come
pub plain_names : (k : Keys) → AreKeys k → (p : Path) (xs ys ms : List (List ℕ)) → Zips (SealsName k p) xs ys → Shuffles ys ms → AreSingle xs → ArePlainNames k p ms (in_order xs)
plain_names k w p xs ys ms h s one =
    let r = Zips-Shuffles (SealsName k p) xs ys ms s h in
    opened_names k w p ms r.0 (in_order xs)
    (record { sealed = r.2; single = single-Shuffles xs r.0 r.1 one; order = joined r.0 xs (in_order xs) (Shuffles-sym xs r.0 r.1) (Shuffles-in_order xs) })
    (ascending xs one)
