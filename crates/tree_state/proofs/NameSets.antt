-- An ordered set of strings, as the list of its names in byte order.
use Rattle.std.proofs.Common.{◌≡◌, ℕ, Bool, true, false, cond, List, [], ◌∷◌, Ordering, refl, sym, ap, ◌∙◌, inl, inr}
use Rattle.std.specs.Prelude.{◌&&◌, ◌||◌, ◌==◌, nat_lt, map, String}
use Rattle.std.specs.BTreeSet.{insert_key}
use Rattle.std.specs.Cmp.Lexicographic.{slice_cmp}
use Rattle.std.specs.Global.{Global}
use Rattle.std.specs.List.{list_any}
use Rattle.std.specs.Ordering.{is_eq, is_le, nat_cmp, match_ordering, ordering_then}
use Rattle.std.specs.Set.{remove_key}
use Rattle.std.specs.Str.{bytes_eq}
use Rattle.std.specs.String.{string_bytes, string_cmp}
use Rattle.std.specs.declared.cmp.Ordering.TheVariants.{Less, Equal, Greater}
use Rattle.std.proofs.lemmas.Bool.{cases_Bool}
use Rattle.std.proofs.lemmas.Map.Text.{is_eq-slice_cmp}
use Rattle.std.proofs.lemmas.Slice.Eq.{bytes_eq-Decides}
use Rattle.tree_state.specs.Counts.{is_at_text}
use Rattle.tree_state.specs.Nodes.{text_le, placed}
use Rattle.tree_state.proofs.ByteOrder.{placed_before, placed_after, placed_alone}

-- the list has the name
abbrev pub has_name : List ℕ → List (List ℕ) → Bool
has_name n ms = list_any (λ m. bytes_eq m n) ms

-- the name is this one, as the set tests it
abbrev is_name : List ℕ → List ℕ → Bool
is_name n m = is_eq (slice_cmp nat_cmp n m)

-- the order of texts is that of the set
le_by_cmp : (x y : List ℕ) → text_le x y ≡ is_le (slice_cmp nat_cmp x y)
unfolding text_le
le_by_cmp [] [] = refl
le_by_cmp [] (b ∷ y) = refl
le_by_cmp (a ∷ x) [] = refl
le_by_cmp (a ∷ x) (b ∷ y) = by_first (nat_lt a b) (a == b) (text_le x y) (slice_cmp nat_cmp x y) (le_by_cmp x y)
  where
    by_first : (l e t : Bool) (o : Ordering) → t ≡ is_le o → (l || (e && t)) ≡ is_le (ordering_then (cond l Less (cond e Equal Greater)) o)
    by_first true e t o h = refl
    by_first false true t o h = h
    by_first false false t o h = refl

first_not : (a b : Bool) → (a || b) ≡ false → (a ≡ false) × (b ≡ false)
first_not true b h = absurd cc
first_not false b h = (refl, h)

is_name-refl : (n : List ℕ) → is_name n n ≡ true
is_name-refl n = is_eq-slice_cmp n n ∙ (bytes_eq-Decides n n).1 refl

-- a name that differs is not found
is_name-other : (n m : List ℕ) → bytes_eq m n ≡ false → is_name n m ≡ false
is_name-other n m h =
    elim (cases_Bool (is_name n m)) [
      | inl k ↦ let e : n ≡ m = (bytes_eq-Decides n m).0 (sym (is_eq-slice_cmp n m) ∙ k) in let f = (bytes_eq-Decides m n).1 (sym e) in absurd cc
      | inr k ↦ k
    ]

-- a new name goes to its place
pub insert_name : (ks : List (String Global)) (k : String Global) → has_name (string_bytes k) (map string_bytes ks) ≡ false
    → map string_bytes (insert_key string_cmp ks k) ≡ placed (string_bytes k) (map string_bytes ks)
insert_name [] k h = sym (placed_alone (string_bytes k))
insert_name (x ∷ ks) k h =
    let apart = first_not _ _ h in
    go (string_cmp k x) refl apart.0 (insert_name ks k apart.1)
  where
    go : (o : Ordering) → string_cmp k x ≡ o → bytes_eq (string_bytes x) (string_bytes k) ≡ false
        → map string_bytes (insert_key string_cmp ks k) ≡ placed (string_bytes k) (map string_bytes ks)
        → map string_bytes (match_ordering o (k ∷ x ∷ ks) (x ∷ ks) (x ∷ insert_key string_cmp ks k)) ≡ placed (string_bytes k) (string_bytes x ∷ map string_bytes ks)
    go Less i apart ih = sym (placed_before _ _ _ (le_by_cmp (string_bytes k) (string_bytes x) ∙ ap is_le i))
    go Equal i apart ih = let f = is_name-other (string_bytes k) (string_bytes x) apart in let g = ap is_eq i in absurd cc
    go Greater i apart ih = ap (λ (l : List (List ℕ)). string_bytes x ∷ l) ih ∙ sym (placed_after _ _ _ (le_by_cmp (string_bytes k) (string_bytes x) ∙ ap is_le i))

removed_names : (n : List ℕ) (ks : List (String Global)) → map string_bytes (remove_key (is_at_text n) ks) ≡ remove_key (is_name n) (map string_bytes ks)
removed_names n [] = refl
removed_names n (x ∷ ks) = go (is_at_text n x) (removed_names n ks)
  where
    go : (b : Bool) → map string_bytes (remove_key (is_at_text n) ks) ≡ remove_key (is_name n) (map string_bytes ks)
        → map string_bytes (cond b ks (x ∷ remove_key (is_at_text n) ks)) ≡ cond b (map string_bytes ks) (string_bytes x ∷ remove_key (is_name n) (map string_bytes ks))
    go true ih = refl
    go false ih = ap (λ (l : List (List ℕ)). string_bytes x ∷ l) ih

remove_here : (n : List ℕ) (ms : List (List ℕ)) → remove_key (is_name n) (n ∷ ms) ≡ ms
remove_here n ms = ap (λ (b : Bool). cond b ms (n ∷ remove_key (is_name n) ms)) (is_name-refl n)

remove_later : (n m : List ℕ) (ms : List (List ℕ)) → bytes_eq m n ≡ false
    → remove_key (is_name n) (m ∷ ms) ≡ m ∷ remove_key (is_name n) ms
remove_later n m ms h = ap (λ (b : Bool). cond b ms (m ∷ remove_key (is_name n) ms)) (is_name-other n m h)

-- a name that was placed is taken out
placed_removed : (n : List ℕ) (ms : List (List ℕ)) → has_name n ms ≡ false → remove_key (is_name n) (placed n ms) ≡ ms
placed_removed n [] h = ap (remove_key (is_name n)) (placed_alone n) ∙ remove_here n []
placed_removed n (m ∷ ms) h =
    let apart = first_not _ _ h in
    elim (cases_Bool (text_le n m)) [
      | inl a ↦ ap (remove_key (is_name n)) (placed_before n m ms a) ∙ remove_here n (m ∷ ms)
      | inr a ↦ ap (remove_key (is_name n)) (placed_after n m ms a) ∙ remove_later n m (placed n ms) apart.0
          ∙ ap (λ (l : List (List ℕ)). m ∷ l) (placed_removed n ms apart.1)
    ]

-- a set without a name that stands there once
pub remove_name : (n : List ℕ) (ks : List (String Global)) (ms : List (List ℕ)) → map string_bytes ks ≡ placed n ms → has_name n ms ≡ false
    → map string_bytes (remove_key (is_at_text n) ks) ≡ ms
remove_name n ks ms e h = removed_names n ks ∙ ap (remove_key (is_name n)) e ∙ placed_removed n ms h
