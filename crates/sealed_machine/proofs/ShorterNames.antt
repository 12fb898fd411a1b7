-- The names of children take no more bytes than the store's, in whatever order these stand.
use Rattle.std.proofs.Common.{◌≡◌, ◌≢◌, ◌<◌, ◌≤◌, ◌+◌, ◌^◌, ℕ, pos, true, false, List, [], ◌∷◌, ◌++◌, Option, Some, length, inl, inr, refl, sym, ap, subst, ◌∙◌, arith, length-append}
use Rattle.std.specs.List.{AllByRecursion}
use Rattle.std.specs.List.Sorted.{IsStrictlySortedBy}
use Rattle.std.specs.Ordering.{is_eq}
use Rattle.std.specs.Str.{IsUtf8}
use Rattle.std.specs.declared.cmp.Ordering.TheVariants.{Less}
use Rattle.std.proofs.lemmas.Map.Text.{is_eq-slice_cmp}
use Rattle.std.proofs.lemmas.Slice.Eq.{bytes_eq-Decides}
use Rattle.jute_core.specs.Jute.{Spells, Each, int_bytes, ustring, vector}
use Rattle.zk_path.specs.Paths.{IsComponent}
use Rattle.path_seal.specs.Sealed.{Keys, AreKeys, SealName}
use Rattle.reply_rewrite.specs.Children.{byte_order, IsOneOf, ArePlainNames, IsPlainList}
use Rattle.tree_state.specs.Nodes.{Path}
use Rattle.sealed_machine.proofs.SealedNames.{sealed_longer, one_name}
use Rattle.sealed_machine.proofs.ChildLists.{at_one_of}
use Rattle.sealed_machine.proofs.ShorterValues.{Shrinks}

-- how many bytes spell these texts
total : List (List ℕ) → ℕ
total [] = 0
total (n ∷ ns) = length n + 4 + total ns

-- ---- texts one after another

each_total : (ns : List (List ℕ)) (b : List ℕ) → Each (Spells ustring) ns b → length b ≡ total ns
unfolding total Spells
each_total [] b h = ap length h
each_total (n ∷ ns) b (x, y, ((z, head, cut_text), utf8), more, cut) =
    let four : length z ≡ 4 = ap length head.1 in
    omega (arith, four, ap length cut, ap length cut_text, length-append x y, length-append z n, each_total ns y more)

each_short : (ns : List (List ℕ)) (b n : List ℕ) → Each (Spells ustring) ns b → IsOneOf n ns → length n < 2 ^ 31
unfolding Spells
each_short [] b n h one = absurd one
each_short (m ∷ ns) b n (x, y, ((z, head, cut_text), utf8), more, cut) (inl e) = omega (arith, head.0, ap length e)
each_short (m ∷ ns) b n (x, y, first, more, cut) (inr one) = each_short ns y n more one

spell_each : (ns : List (List ℕ)) → ((n : List ℕ) → IsOneOf n ns → IsUtf8 n) → ((n : List ℕ) → IsOneOf n ns → length n < 2 ^ 31) → (b : List ℕ) × Each (Spells ustring) ns b
unfolding Spells
spell_each [] u l = ([], refl)
spell_each (n ∷ ns) u l =
    let rest = spell_each ns (λ m h. u m (inr h)) (λ m h. l m (inr h)) in
    let first : Spells ustring n (int_bytes (pos (length n)) ++ n) = ((int_bytes (pos (length n)), (l n (inl refl), refl), refl), u n (inl refl)) in
    ((int_bytes (pos (length n)) ++ n) ++ rest.0, (int_bytes (pos (length n)) ++ n, rest.0, first, rest.1, refl))

-- ---- a list without doubles whose texts are all among others

-- the others without one
record IsTakenOut (n : List ℕ) (xs : List (List ℕ)) : Type 0 where
  left : List (List ℕ)
  sum : total xs ≡ length n + 4 + total left
  others : (m : List ℕ) → IsOneOf m xs → m ≢ n → IsOneOf m left

take_out : (n : List ℕ) (xs : List (List ℕ)) → IsOneOf n xs → IsTakenOut n xs
unfolding total
take_out n [] h = absurd h
take_out n (x ∷ xs) (inl e) = record { left = xs; sum = omega (arith, ap length e); others = others }
  where
    others : (m : List ℕ) → IsOneOf m (x ∷ xs) → m ≢ n → IsOneOf m xs
    others m (inl f) g = absurd (g (f ∙ sym e))
    others m (inr h) g = h
take_out n (x ∷ xs) (inr h) = under (take_out n xs h)
  where
    under : IsTakenOut n xs → IsTakenOut n (x ∷ xs)
    under t = record { left = x ∷ t.left; sum = omega (arith, t.sum); others = others }
      where
        others : (m : List ℕ) → IsOneOf m (x ∷ xs) → m ≢ n → IsOneOf m (x ∷ t.left)
        others m (inl f) g = inl f
        others m (inr j) g = inr (t.others m j g)

-- no text stands twice
unfoldable HasNoDoubles : List (List ℕ) → Type 0
HasNoDoubles [] = Unit {0}
HasNoDoubles (n ∷ ns) = (IsOneOf n ns → ⊥) × HasNoDoubles ns

no_more : (ns xs : List (List ℕ)) → HasNoDoubles ns → ((n : List ℕ) → IsOneOf n ns → IsOneOf n xs) → total ns ≤ total xs
unfolding total HasNoDoubles
no_more [] xs h f = omega arith
no_more (n ∷ ns) xs h f =
    let t = take_out n xs (f n (inl refl)) in
    omega (arith, t.sum, no_more ns t.left h.1 (λ m j. t.others m (f m (inr j)) (λ e. h.0 (subst (λ (x : List ℕ). IsOneOf x ns) e j))))

-- ---- names in byte order

not_below_itself : (n : List ℕ) → byte_order n n ≡ Less → ⊥
not_below_itself n e =
    let t : is_eq (byte_order n n) ≡ true = is_eq-slice_cmp n n ∙ (bytes_eq-Decides n n).1 refl in
    let f : is_eq (byte_order n n) ≡ false = ap is_eq e in
    absurd cc

each_below : (x n : List ℕ) (ns : List (List ℕ)) → AllByRecursion (λ y. byte_order x y ≡ Less) ns → IsOneOf n ns → byte_order x n ≡ Less
each_below x n [] h one = absurd one
each_below x n (y ∷ ys) h (inl e) = subst (λ (z : List ℕ). byte_order x z ≡ Less) (sym e) h.0
each_below x n (y ∷ ys) h (inr one) = each_below x n ys h.1 one

no_doubles : (ns : List (List ℕ)) → IsStrictlySortedBy byte_order ns → HasNoDoubles ns
unfolding HasNoDoubles IsStrictlySortedBy
no_doubles [] h = tt
no_doubles (n ∷ ns) h = ((λ one. not_below_itself n (each_below n n ns h.0 one)), no_doubles ns h.1)

-- ---- and sealed

module _ (k : Keys) (w : AreKeys k) (p : Path) where
  seal_all : List (List ℕ) → List (List ℕ)
  seal_all [] = []
  seal_all (n ∷ ns) = SealName k p n ∷ seal_all ns

  of_one : (m : List ℕ) (ns : List (List ℕ)) → IsOneOf m (seal_all ns) → (n : List ℕ) × IsOneOf n ns × (m ≡ SealName k p n)
  unfolding seal_all
  of_one m [] h = absurd h
  of_one m (n ∷ ns) (inl e) = (n, inl refl, e)
  of_one m (n ∷ ns) (inr h) = let r = of_one m ns h in (r.0, inr r.1, r.2)

  longer_all : (ns : List (List ℕ)) → total ns ≤ total (seal_all ns)
  unfolding total seal_all
  longer_all [] = omega arith
  longer_all (n ∷ ns) = omega (arith, longer_all ns, sealed_longer k p n)

  sealed_apart : (ns : List (List ℕ)) → ((n : List ℕ) → IsOneOf n ns → IsComponent n) → HasNoDoubles ns → HasNoDoubles (seal_all ns)
  unfolding HasNoDoubles seal_all
  sealed_apart [] c h = tt
  sealed_apart (n ∷ ns) c h = (other, sealed_apart ns (λ m j. c m (inr j)) h.1)
    where
      other : IsOneOf (SealName k p n) (seal_all ns) → ⊥
      other one =
          let r = of_one (SealName k p n) ns one in
          h.0 (subst (λ (x : List ℕ). IsOneOf x ns) (sym (one_name k w p n r.0 (c n (inl refl)) (c r.0 (inr r.1)) r.2)) r.1)

  module _ (stored plain : List (List ℕ)) (h : ArePlainNames k p stored plain) where
    opens_one : (n : List ℕ) → IsOneOf n plain → IsComponent n × IsOneOf (SealName k p n) stored
    opens_one n one =
        let at = (h.opened.those n).0 one in
        (at.2.0, subst (λ (x : List ℕ). IsOneOf x stored) (sym at.2.1) (at_one_of stored at.0 at.1))

    all_stored : (m : List ℕ) → IsOneOf m (seal_all plain) → IsOneOf m stored
    all_stored m one = let r = of_one m plain one in subst (λ (x : List ℕ). IsOneOf x stored) (sym r.2) (opens_one r.0 r.1).1

    names_within : total plain ≤ total stored
    names_within = omega (arith, longer_all plain, no_more (seal_all plain) stored (sealed_apart plain (λ n one. (opens_one n one).0) (no_doubles plain h.ascending)) all_stored)

    shrinks_names : Shrinks (vector ustring) (Some stored) (Some plain)
    unfolding Shrinks Spells
    shrinks_names b (x, y, head, each, cut) =
        let old = each_total stored y each in
        let four : length x ≡ 4 = ap length head.1 in
        let few : length plain ≡ length stored = h.opened.counted in
        let short : (n : List ℕ) → IsOneOf n plain → length n < 2 ^ 31 = λ n one. omega (arith, sealed_longer k p n, each_short stored y (SealName k p n) each (opens_one n one).1) in
        let made = spell_each plain (λ n one. (opens_one n one).0.utf8) short in
        let size = each_total plain made.0 made.1 in
        record {
          bytes = int_bytes (pos (length plain)) ++ made.0;
          is = (int_bytes (pos (length plain)), made.0, (omega (arith, few, head.0), refl), made.1, refl);
          within = omega (arith, four, size, old, names_within, ap length cut, length-append x y, length-append (int_bytes (pos (length plain))) made.0);
        }

pub shrinks_list : (k : Keys) → AreKeys k → (p : Path) (list names : Option (List (List ℕ))) → IsPlainList k p list names → Shrinks (vector ustring) list names
unfolding IsPlainList
shrinks_list k w p (Some stored) (Some plain) h = shrinks_names k w p stored plain h
shrinks_list k w p list names h = absurd h
