-- How many bytes spell a value, by its parts.
use Rattle.std.proofs.Common.{◌≡◌, ◌≤◌, ◌<◌, ◌+◌, ◌-◌, ◌^◌, ℕ, ℤ, pos, negsuc, List, [], ◌∷◌, ◌++◌, length, length-append, min, map, take, take_all, get_or, suc, Bool, true, false, Some, None, refl, ap, sym, subst, ◌∙◌, arith, w32, w64}
use Rattle.std.proofs.Math.Seq.{take-suc}
use Rattle.std.proofs.lemmas.List.{length-map}
use Rattle.std.specs.Int.RustNames.{FitsSigned}
use Rattle.std.specs.Str.{IsUtf8}
use Rattle.jute_core.specs.Jute.{Jute, Value, Spells, Each, IsLength, int, long, boolean, buffer, ustring, pair, vector, int_bytes, long_bytes}
use Rattle.jute_core.proofs.Many.{each_then}
use Rattle.zk_records.specs.Acls.{acl, acl_fields, acls, acls_fields}
use Rattle.zk_records.specs.declared.acl.Acl.{Acl}
use Rattle.store_side.specs.Counted.{IsCounted}

-- ---- parts behind one another

pub count_as : (Is Too : List ℕ → Type 0) (n : ℕ) → ((b : List ℕ) → Is b → Too b) → IsCounted Is n → IsCounted Too n
count_as Is Too n so p = record { bytes = p.bytes; is = so p.bytes p.is; number = p.number }

pub count_both : (First Second Both : List ℕ → Type 0) (m n k : ℕ) → ((x y : List ℕ) → First x → Second y → Both (x ++ y))
    → IsCounted First m → IsCounted Second n → k ≡ min (m + n) (2 ^ 64 - 1) → IsCounted Both k
count_both First Second Both m n k both p q sum = record {
  bytes = p.bytes ++ q.bytes;
  is = both p.bytes q.bytes p.is q.is;
  number = omega (arith, p.number, q.number, sum, length-append p.bytes q.bytes);
}

pub count_pair : (s t : Jute) (v : Value s) (w : Value t) (m n k : ℕ) → IsCounted (Spells s v) m → IsCounted (Spells t w) n
    → k ≡ min (m + n) (2 ^ 64 - 1) → IsCounted (Spells (pair s t) (v, w)) k
unfolding Spells
count_pair s t v w m n k p q sum =
    count_both (Spells s v) (Spells t w) (Spells (pair s t) (v, w)) m n k (λ x y h i. (x, y, h, i, refl)) p q sum

-- ---- fields

pub count_int : (z : ℤ) → FitsSigned w32 z → IsCounted (Spells int z) 4
unfolding Spells
count_int z fits = record { bytes = int_bytes z; is = (fits, refl); number = refl }

pub count_long : (z : ℤ) → FitsSigned w64 z → IsCounted (Spells long z) 8
unfolding Spells
count_long z fits = record { bytes = long_bytes z; is = (fits, refl); number = refl }

pub count_boolean : (b : Bool) → IsCounted (Spells boolean b) 1
unfolding Spells
count_boolean true = record { bytes = 1 ∷ []; is = refl; number = refl }
count_boolean false = record { bytes = 0 ∷ []; is = refl; number = refl }

-- an int, and the same for a long, before other fields
pub int_before : (t : Jute) (z : ℤ) (w : Value t) (n k : ℕ) → FitsSigned w32 z → IsCounted (Spells t w) n → k ≡ min (n + 4) (2 ^ 64 - 1)
    → IsCounted (Spells (pair int t) (z, w)) k
int_before t z w n k fits p sum = count_pair int t z w 4 n k (count_int z fits) p (omega (arith, sum))

pub long_before : (t : Jute) (z : ℤ) (w : Value t) (n k : ℕ) → FitsSigned w64 z → IsCounted (Spells t w) n → k ≡ min (n + 8) (2 ^ 64 - 1)
    → IsCounted (Spells (pair long t) (z, w)) k
long_before t z w n k fits p sum = count_pair long t z w 8 n k (count_long z fits) p (omega (arith, sum))

length_counted : (n : ℕ) → n < 2 ^ 31 → IsCounted (IsLength n) 4
length_counted n small = record { bytes = int_bytes (pos n); is = (small, refl); number = refl }

pub count_text : (text : List ℕ) (k : ℕ) → length text < 2 ^ 31 → IsUtf8 text → k ≡ min (length text + 4) (2 ^ 64 - 1)
    → IsCounted (Spells ustring text) k
unfolding Spells
count_text text k small utf8 sum = record {
  bytes = int_bytes (pos (length text)) ++ text;
  is = ((int_bytes (pos (length text)), (small, refl), refl), utf8);
  number = omega (arith, sum, length-append (int_bytes (pos (length text))) text, head);
}
  where
    head : length (int_bytes (pos (length text))) ≡ 4
    head = refl

pub count_bytes : (bytes : List ℕ) (k : ℕ) → length bytes < 2 ^ 31 → k ≡ min (length bytes + 4) (2 ^ 64 - 1)
    → IsCounted (Spells buffer (Some bytes)) k
unfolding Spells
count_bytes bytes k small sum = record {
  bytes = int_bytes (pos (length bytes)) ++ bytes;
  is = (int_bytes (pos (length bytes)), (small, refl), refl);
  number = omega (arith, sum, length-append (int_bytes (pos (length bytes))) bytes, head);
}
  where
    head : length (int_bytes (pos (length bytes))) ≡ 4
    head = refl

pub count_no_bytes : IsCounted (Spells buffer None) 4
unfolding Spells
count_no_bytes = record { bytes = int_bytes (negsuc 0); is = refl; number = refl }

-- ---- lists

-- of the values of a list one more is counted
pub count_next : {V : Type 0} (R : V → List ℕ → Type 0) (l : List V) (i : ℕ) (v : V) (m n k : ℕ) → IsCounted (Each R (take i l)) m
    → i < length l → v ≡ get_or l i v → IsCounted (R v) n → k ≡ min (m + n) (2 ^ 64 - 1) → IsCounted (Each R (take (i + 1) l)) k
count_next {V} R l i v m n k p less at q sum =
    let next : take (i + 1) l ≡ take i l ++ v ∷ [] =
    ap (λ (j : ℕ). take j l) (plus_one i) ∙ take-suc l i v less ∙ ap (λ (w : V). take i l ++ w ∷ []) (sym at) in
    subst (λ (vs : List V). IsCounted (Each R vs) k) (sym next)
    (count_both (Each R (take i l)) (R v) (Each R (take i l ++ v ∷ [])) m n k (λ x y e r. each_then R (take i l) v x y e r) p q sum)
  where
    plus_one : (j : ℕ) → j + 1 ≡ suc j
    plus_one j = omega arith

-- all of them are
pub count_all : {V : Type 0} (R : V → List ℕ → Type 0) (l : List V) (i k : ℕ) → IsCounted (Each R (take i l)) k → length l ≤ i
    → IsCounted (Each R l) k
count_all {V} R l i k p all = subst (λ (vs : List V). IsCounted (Each R vs) k) (take_all i l all) p

pub count_vector : (t : Jute) (vs : List (Value t)) (n k : ℕ) → length vs < 2 ^ 31 → IsCounted (Each (Spells t) vs) n
    → k ≡ min (n + 4) (2 ^ 64 - 1) → IsCounted (Spells (vector t) (Some vs)) k
unfolding Spells
count_vector t vs n k few p sum =
    count_both (IsLength (length vs)) (Each (Spells t) vs) (Spells (vector t) (Some vs)) 4 n k (λ x y h i. (x, y, h, i, refl))
    (length_counted (length vs) few) p (omega (arith, sum))

pub count_no_vector : (t : Jute) → IsCounted (Spells (vector t) None) 4
unfolding Spells
count_no_vector t = record { bytes = int_bytes (negsuc 0); is = refl; number = refl }

-- ACLs, as their fields
each_fields : (list : List Acl) (b : List ℕ) → Each (λ (a : Acl). Spells acl (acl_fields a)) list b
    → Each (Spells acl) (map acl_fields list) b
each_fields [] b h = h
each_fields (a ∷ list) b h = (h.0, h.1, h.2, each_fields list h.1 h.3, h.4)

pub count_acls : (list : List Acl) (n k : ℕ) → length list < 2 ^ 31 → IsCounted (Each (λ (a : Acl). Spells acl (acl_fields a)) list) n
    → k ≡ min (n + 4) (2 ^ 64 - 1) → IsCounted (Spells acls (acls_fields (Some list))) k
count_acls list n k few p sum =
    count_vector acl (map acl_fields list) n k (omega (arith, few, length-map list acl_fields)) (count_as _ _ n (each_fields list) p) sum
