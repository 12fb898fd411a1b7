-- Maps that are copied entry by entry, in the order of their keys, and texts that are cloned.
use Rattle.std.proofs.Common.{◌≡◌, ℕ, List, [], ◌∷◌, ◌++◌, String, Global, string_bytes, map, Ordering, Less, Greater, refl, sym, ap, ap₂, subst, ◌∙◌, append_assoc, append-nil}
use Rattle.std.specs.BTreeMap.{insert_entry}
use Rattle.std.specs.Cmp.{IsTotalOrder}
use Rattle.std.specs.List.{AllZip, AllByRecursion}
use Rattle.std.specs.List.Sorted.{IsStrictlySortedBy}
use Rattle.std.specs.Map.{keys_of}
use Rattle.std.specs.Ordering.{match_ordering, ordering_reverse}
use Rattle.std.proofs.lemmas.List.Elements.{AllZip-push}
use Rattle.std.proofs.lemmas.Map.Keys.{sorted_head, sorted_tail}

-- texts that are cloned have the bytes that they had
pub same_texts : (old new : List (String Global)) → AllZip (λ s t. string_bytes t ≡ string_bytes s) old new → map string_bytes new ≡ map string_bytes old
same_texts [] [] h = refl
same_texts [] (t ∷ ts) h = absurd h
same_texts (s ∷ ss) [] h = absurd h
same_texts (s ∷ ss) (t ∷ ts) h = ap₂ (λ (x : List ℕ) (xs : List (List ℕ)). x ∷ xs) h.0 (same_texts ss ts h.1)

-- the key of a copy compares as that of its source does
abbrev pub AreAlike : {K X : Type 0} → (K → K → Ordering) → (K × X → K × X → Type 0) → Type 0
AreAlike {K} {X} cmp R = (e f : K × X) → R e f → (k : K) → (cmp f.0 k ≡ cmp e.0 k) × (cmp k f.0 ≡ cmp k e.0)

-- the first entries of a map were copied, and the rest is left
pub record IsCopiedUpTo {K X : Type 0} (R : K × X → K × X → Type 0) (made rest all : List (K × X)) : Type 0 where
  pub first : List (K × X)
  pub split : first ++ rest ≡ all
  pub copied : AllZip R first made

holds_of : {K X : Type 0} (P : K → Type 0) (ds rest : List (K × X)) (e : K × X) → AllByRecursion P (keys_of (ds ++ e ∷ rest)) → P e.0
holds_of P [] rest e h = h.0
holds_of P (d ∷ ds) rest e h = holds_of P ds rest e h.1

-- a copy of the next entry goes to the end
insert_last : {K X : Type 0} (cmp : K → K → Ordering) (R : K × X → K × X → Type 0) → IsTotalOrder cmp → AreAlike cmp R
    → (ds ms rest : List (K × X)) (e f : K × X) → IsStrictlySortedBy cmp (keys_of (ds ++ e ∷ rest)) → AllZip R ds ms → R e f
    → insert_entry cmp ms f.0 f.1 ≡ ms ++ f ∷ []
insert_last cmp R total alike [] [] rest e f s h r = refl
insert_last cmp R total alike [] (m ∷ ms) rest e f s h r = absurd h
insert_last cmp R total alike (d ∷ ds) [] rest e f s h r = absurd h
insert_last {K} {X} cmp R total alike (d ∷ ds) (m ∷ ms) rest e f s h r =
    let below : cmp d.0 e.0 ≡ Less = holds_of (λ y. cmp d.0 y ≡ Less) ds rest e (sorted_head cmp d.0 (keys_of (ds ++ e ∷ rest)) s) in
    let above : cmp f.0 m.0 ≡ Greater = (alike d m h.0 f.0).1 ∙ (alike e f r d.0).0 ∙ total.antisymm e.0 d.0 ∙ ap ordering_reverse below in
    ap (λ (o : Ordering). match_ordering o ((f.0, f.1) ∷ m ∷ ms) ((m.0, f.1) ∷ ms) (m ∷ insert_entry cmp ms f.0 f.1)) above
    ∙ ap (λ (fs : List (K × X)). m ∷ fs) (insert_last cmp R total alike ds ms rest e f (sorted_tail cmp d.0 (keys_of (ds ++ e ∷ rest)) s) h.1 r)

pub none_copied : {K X : Type 0} (R : K × X → K × X → Type 0) (made rest all : List (K × X)) → made ≡ [] → rest ≡ all → IsCopiedUpTo R made rest all
none_copied R made rest all none whole = record { first = []; split = whole; copied = subst (λ ms. AllZip R [] ms) (sym none) tt }

pub entry_copied : {K X : Type 0} (cmp : K → K → Ordering) (R : K × X → K × X → Type 0) → IsTotalOrder cmp → AreAlike cmp R
    → (made after left rest all : List (K × X)) (e f : K × X) → IsStrictlySortedBy cmp (keys_of all) → left ≡ e ∷ rest → R e f
    → after ≡ insert_entry cmp made f.0 f.1 → IsCopiedUpTo R made left all → IsCopiedUpTo R after rest all
entry_copied {K} {X} cmp R total alike made after left rest all e f sorted next copy more so_far =
    let split : so_far.first ++ e ∷ rest ≡ all = ap (λ (xs : List (K × X)). so_far.first ++ xs) (sym next) ∙ so_far.split in
    let last = insert_last cmp R total alike so_far.first made rest e f (subst (λ (xs : List (K × X)). IsStrictlySortedBy cmp (keys_of xs)) (sym split) sorted) so_far.copied copy in
    record {
      first = so_far.first ++ e ∷ [];
      split = append_assoc so_far.first (e ∷ []) rest ∙ split;
      copied = subst (λ (xs : List (K × X)). AllZip R (so_far.first ++ e ∷ []) xs) (sym (more ∙ last)) (AllZip-push R so_far.first made e f so_far.copied copy);
    }

pub entries_copied : {K X : Type 0} (R : K × X → K × X → Type 0) (made left all : List (K × X)) → left ≡ [] → IsCopiedUpTo R made left all → AllZip R all made
entries_copied {K} {X} R made left all none so_far =
    subst (λ (xs : List (K × X)). AllZip R xs made) (sym (append-nil so_far.first) ∙ ap (λ (xs : List (K × X)). so_far.first ++ xs) (sym none) ∙ so_far.split) so_far.copied
