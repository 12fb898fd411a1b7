-- Sets of names, as lists in byte order.
use Rattle.std.proofs.Common.{◌≡◌, ◌⊎◌, ◌↔◌, ℕ, Bool, true, false, not, ◌||◌, List, [], ◌∷◌, map, inl, inr, refl, sym, ap, ◌∙◌, subst, IsTrue, ◌+◌, length, arith, if◌then◌else◌}
use Rattle.std.proofs.lemmas.Bool.{false≢true}
use Rattle.std.proofs.lemmas.List.{length-map}
use Rattle.std.proofs.lemmas.Map.Text.{is_eq-slice_cmp}
use Rattle.std.proofs.lemmas.Slice.Eq.{bytes_eq-Decides}
use Rattle.std.specs.BTreeMap.{is_at}
use Rattle.std.specs.BTreeSet.{insert_key}
use Rattle.std.specs.Cmp.Lexicographic.{slice_cmp, nat_list_cmp_total}
use Rattle.std.specs.List.{list_any, AllByRecursion}
use Rattle.std.specs.List.Sorted.{IsStrictlySortedBy}
use Rattle.std.specs.Ordering.{is_eq, match_ordering, nat_cmp, ordering_reverse}
use Rattle.std.specs.declared.cmp.Ordering.{Ordering}
use Rattle.std.specs.declared.cmp.Ordering.TheVariants.{Less, Equal, Greater}
use Rattle.std.specs.Prelude.{String, string_bytes}
use Rattle.std.specs.String.{string_cmp}
use Rattle.reply_rewrite.specs.Children.{IsOneOf, byte_order}

equal_bytes : (xs ys : List ℕ) → slice_cmp nat_cmp xs ys ≡ Equal → xs ≡ ys
equal_bytes xs ys e = (bytes_eq-Decides xs ys).0 (sym (is_eq-slice_cmp xs ys) ∙ ap is_eq e)

at_true : (xs ys : List ℕ) → is_eq (slice_cmp nat_cmp xs ys) ≡ true → xs ≡ ys
at_true xs ys e = (bytes_eq-Decides xs ys).0 (sym (is_eq-slice_cmp xs ys) ∙ e)

true_at : (xs ys : List ℕ) → xs ≡ ys → is_eq (slice_cmp nat_cmp xs ys) ≡ true
true_at xs ys e = is_eq-slice_cmp xs ys ∙ (bytes_eq-Decides xs ys).1 e

either_true : (a b : Bool) → b ≡ true → (a || b) ≡ true
either_true true b e = refl
either_true false b e = e

-- keys that are ordered by their bytes
module _ {K : Type 0} (bytes : K → List ℕ) where
  abbrev pub by_bytes : K → K → Ordering
  by_bytes x y = slice_cmp nat_cmp (bytes x) (bytes y)

  any_by : (s x : K) (xs : List K) (b : Bool) → is_eq (by_bytes s x) ≡ b → (b || list_any (is_at (by_bytes s)) xs) ≡ true → (list_any (is_at (by_bytes s)) xs ≡ true → IsOneOf (bytes s) (map bytes xs)) → IsOneOf (bytes s) (map bytes (x ∷ xs))
  any_by s x xs true same h rest = inl (at_true (bytes s) (bytes x) same)
  any_by s x xs false same h rest = inr (rest h)

  any_one : (s : K) (ks : List K) → list_any (is_at (by_bytes s)) ks ≡ true → IsOneOf (bytes s) (map bytes ks)
  any_one s [] e = absurd (false≢true e)
  any_one s (x ∷ xs) e = any_by s x xs (is_eq (by_bytes s x)) refl e (any_one s xs)

  one_any : (s : K) (ks : List K) → IsOneOf (bytes s) (map bytes ks) → list_any (is_at (by_bytes s)) ks ≡ true
  one_any s [] h = absurd h
  one_any s (x ∷ xs) (inl e) = ap (λ (b : Bool). b || list_any (is_at (by_bytes s)) xs) (true_at (bytes s) (bytes x) e)
  one_any s (x ∷ xs) (inr h) = either_true (is_eq (by_bytes s x)) (list_any (is_at (by_bytes s)) xs) (one_any s xs h)

  absent_by : (s : K) (ks : List K) (b : Bool) → list_any (is_at (by_bytes s)) ks ≡ b → (IsOneOf (bytes s) (map bytes ks) → ⊥) → not b ≡ true
  absent_by s ks true same f = absurd (f (any_one s ks same))
  absent_by s ks false same f = refl

  pub added_one : (s : K) (ks : List K) (added : Bool) → added ≡ not (list_any (is_at (by_bytes s)) ks) → IsTrue added ↔ (IsOneOf (bytes s) (map bytes ks) → ⊥)
  added_one s ks added e =
      (λ yes_added h. false≢true (sym (ap not (one_any s ks h)) ∙ sym e ∙ yes_added), λ other. e ∙ absent_by s ks (list_any (is_at (by_bytes s)) ks) refl other)

  first_later : (q : List ℕ) (s x : K) (xs : List K) → (q ≡ bytes s) ⊎ IsOneOf q (map bytes xs) → (q ≡ bytes s) ⊎ IsOneOf q (map bytes (x ∷ xs))
  first_later q s x xs (inl e) = inl e
  first_later q s x xs (inr k) = inr (inr k)

  from_order : (q : List ℕ) (s x : K) (xs : List K) (o : Ordering) → IsOneOf q (map bytes (match_ordering o (s ∷ x ∷ xs) (x ∷ xs) (x ∷ insert_key by_bytes xs s)))
      → (IsOneOf q (map bytes (insert_key by_bytes xs s)) → (q ≡ bytes s) ⊎ IsOneOf q (map bytes xs)) → (q ≡ bytes s) ⊎ IsOneOf q (map bytes (x ∷ xs))
  from_order q s x xs Less g rest = g
  from_order q s x xs Equal g rest = inr g
  from_order q s x xs Greater (inl e) rest = inr (inl e)
  from_order q s x xs Greater (inr g) rest = first_later q s x xs (rest g)

  one_of_inserted : (q : List ℕ) (s : K) (ks : List K) → IsOneOf q (map bytes (insert_key by_bytes ks s)) → (q ≡ bytes s) ⊎ IsOneOf q (map bytes ks)
  one_of_inserted q s [] h = h
  one_of_inserted q s (x ∷ xs) h = from_order q s x xs (by_bytes s x) h (one_of_inserted q s xs)

  to_order : (q : List ℕ) (s x : K) (xs : List K) (o : Ordering) → by_bytes s x ≡ o → (q ≡ bytes s) ⊎ IsOneOf q (map bytes (x ∷ xs))
      → ((q ≡ bytes s) ⊎ IsOneOf q (map bytes xs) → IsOneOf q (map bytes (insert_key by_bytes xs s))) → IsOneOf q (map bytes (match_ordering o (s ∷ x ∷ xs) (x ∷ xs) (x ∷ insert_key by_bytes xs s)))
  to_order q s x xs Less same g rest = g
  to_order q s x xs Equal same (inl e) rest = inl (e ∙ equal_bytes (bytes s) (bytes x) same)
  to_order q s x xs Equal same (inr g) rest = g
  to_order q s x xs Greater same (inl e) rest = inr (rest (inl e))
  to_order q s x xs Greater same (inr (inl e)) rest = inl e
  to_order q s x xs Greater same (inr (inr g)) rest = inr (rest (inr g))

  inserted_one : (q : List ℕ) (s : K) (ks : List K) → (q ≡ bytes s) ⊎ IsOneOf q (map bytes ks) → IsOneOf q (map bytes (insert_key by_bytes ks s))
  inserted_one q s [] h = h
  inserted_one q s (x ∷ xs) h = to_order q s x xs (by_bytes s x) refl h (inserted_one q s xs)

  pub inserted : (s : K) (ks ls : List K) → ls ≡ insert_key by_bytes ks s → (q : List ℕ) → IsOneOf q (map bytes ls) ↔ ((q ≡ bytes s) ⊎ IsOneOf q (map bytes ks))
  inserted s ks ls e q =
      subst (λ (l : List K). IsOneOf q (map bytes l) ↔ ((q ≡ bytes s) ⊎ IsOneOf q (map bytes ks))) (sym e)
      (one_of_inserted q s ks, inserted_one q s ks)

  above : (x : K) (ks : List K) → AllByRecursion (λ y. by_bytes x y ≡ Less) ks → AllByRecursion (λ y. byte_order (bytes x) y ≡ Less) (map bytes ks)
  above x [] h = tt
  above x (y ∷ ys) h = (h.0, above x ys h.1)

  pub ascends : (ks : List K) → IsStrictlySortedBy by_bytes ks → IsStrictlySortedBy byte_order (map bytes ks)
  unfolding IsStrictlySortedBy
  ascends [] h = tt
  ascends (x ∷ xs) h = (above x xs h.0, ascends xs h.1)

-- the keys of a set of texts
pub ascending : {Z : Type 0} (ks : List (String Z)) → IsStrictlySortedBy string_cmp ks → IsStrictlySortedBy byte_order (map string_bytes ks)
ascending {Z} ks h = ascends string_bytes ks h

pub counted : {Z : Type 0} (ks ls : List (String Z)) (added : Bool) → length ls ≡ length ks + (if added then 1 else 0) → IsTrue added → length (map string_bytes ls) ≡ length (map string_bytes ks) + 1
counted {Z} ks ls true e h = omega (arith, e, length-map ls string_bytes, length-map ks string_bytes)
counted {Z} ks ls false e h = absurd (false≢true h)

pub ruleset sets = (ascending)

-- ---- a name put into a list

same_map : (ks : List (List ℕ)) → map (λ n. n) ks ≡ ks
same_map [] = refl
same_map (x ∷ xs) = ap (λ (l : List (List ℕ)). x ∷ l) (same_map xs)

pub inserted_name : (name : List ℕ) (ks : List (List ℕ)) → (q : List ℕ) → IsOneOf q (insert_key byte_order ks name) ↔ ((q ≡ name) ⊎ IsOneOf q ks)
inserted_name name ks q =
    let both = inserted (λ n. n) name ks (insert_key byte_order ks name) refl q in
    rw (same_map (insert_key byte_order ks name), same_map ks) at both

count_by : (name x : List ℕ) (xs : List (List ℕ)) (o : Ordering) → byte_order name x ≡ o → (IsOneOf name (x ∷ xs) → ⊥) → length (insert_key byte_order xs name) ≡ length xs + 1 → length (match_ordering o (name ∷ x ∷ xs) (x ∷ xs) (x ∷ insert_key byte_order xs name)) ≡ length (x ∷ xs) + 1
count_by name x xs Less same f rest = omega arith
count_by name x xs Equal same f rest = absurd (f (inl (equal_bytes name x same)))
count_by name x xs Greater same f rest = omega (arith, rest)

pub inserted_count : (name : List ℕ) (ks : List (List ℕ)) → (IsOneOf name ks → ⊥) → length (insert_key byte_order ks name) ≡ length ks + 1
inserted_count name [] f = refl
inserted_count name (x ∷ xs) f = count_by name x xs (byte_order name x) refl f (inserted_count name xs (λ h. f (inr h)))

all_above : (x : List ℕ) (ks : List (List ℕ)) → Type 0
all_above x ks = AllByRecursion (λ y. byte_order x y ≡ Less) ks

above_along : (a x : List ℕ) (ks : List (List ℕ)) → byte_order a x ≡ Less → all_above x ks → all_above a ks
unfolding all_above
above_along a x [] l h = tt
above_along a x (y ∷ ys) l h = (nat_list_cmp_total.trans a x y l h.0, above_along a x ys l h.1)

above_inserted : (a name : List ℕ) (ks : List (List ℕ)) → byte_order a name ≡ Less → all_above a ks → all_above a (insert_key byte_order ks name)
unfolding all_above
above_inserted a name [] l h = (l, tt)
above_inserted a name (x ∷ xs) l h = by_order a name x xs (byte_order name x) l h (above_inserted a name xs l h.1)
  where
    by_order : (a name x : List ℕ) (xs : List (List ℕ)) (o : Ordering) → byte_order a name ≡ Less → all_above a (x ∷ xs) → all_above a (insert_key byte_order xs name) → all_above a (match_ordering o (name ∷ x ∷ xs) (x ∷ xs) (x ∷ insert_key byte_order xs name))
    by_order a name x xs Less l h rest = (l, h)
    by_order a name x xs Equal l h rest = h
    by_order a name x xs Greater l h rest = (h.0, rest)

sorted_by : (name x : List ℕ) (xs : List (List ℕ)) (o : Ordering) → byte_order name x ≡ o → IsStrictlySortedBy byte_order (x ∷ xs) → IsStrictlySortedBy byte_order (insert_key byte_order xs name) → IsStrictlySortedBy byte_order (match_ordering o (name ∷ x ∷ xs) (x ∷ xs) (x ∷ insert_key byte_order xs name))
unfolding IsStrictlySortedBy all_above
sorted_by name x xs Less same h rest = ((same, above_along name x xs same h.0), h)
sorted_by name x xs Equal same h rest = h
sorted_by name x xs Greater same h rest = (above_inserted x name xs (nat_list_cmp_total.antisymm x name ∙ ap ordering_reverse same) h.0, rest)

pub inserted_ascends : (name : List ℕ) (ks : List (List ℕ)) → IsStrictlySortedBy byte_order ks → IsStrictlySortedBy byte_order (insert_key byte_order ks name)
unfolding IsStrictlySortedBy
inserted_ascends name [] h = (tt, tt)
inserted_ascends name (x ∷ xs) h = sorted_by name x xs (byte_order name x) refl h (inserted_ascends name xs h.1)
