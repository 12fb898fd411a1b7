-- Whether a text is what a legal name or a legal stem is sealed to can be decided: both are no longer than what they are
-- sealed to, so that there are only so many.
use Rattle.std.proofs.Common.{◌≡◌, ◌≢◌, ◌⊎◌, ◌<◌, ◌≤◌, ◌+◌, ℕ, zero, suc, Bool, true, false, List, [], ◌∷◌, ◌++◌, length, inl, inr, refl, sym, ap, ◌∙◌, subst, arith, All, codes}
use Rattle.std.proofs.lemmas.Bool.{cases_lt, cases_eq}
use Rattle.std.proofs.lemmas.List.{get_or_default}
use Rattle.std.proofs.lemmas.List.Elements.{All-nil, All-cons, All-head, All-tail, All-append}
use Rattle.std.proofs.lemmas.Slice.Eq.{bytes_eq-Decides}
use Rattle.std.proofs.lemmas.Str.{IsUtf8-from_is_utf8, is_utf8-from_IsUtf8}
use Rattle.std.proofs.Math.Decide.{dec_le}
use Rattle.std.specs.Int.{IsInRange}
use Rattle.std.specs.Str.{IsUtf8, is_utf8, bytes_eq, chars}
use Rattle.zk_path.specs.Paths.{IsForbidden, IsComponent, IsStemEnd, IsPath, IsStem, joined}
use Rattle.zk_path.specs.View.{components}
use Rattle.zk_path.proofs.Components.{components-joined}
use Rattle.zk_path.proofs.Judged.{stem_plain}
use Rattle.zk_path.proofs.Stable.{dec_of}
use Rattle.path_seal.specs.Sealed.{Keys, SealName, sealed, SealStem, OpensName, OpensStem}
use Rattle.path_seal.specs.Names.{IsName}
use Rattle.path_seal.proofs.NameBytes.{bytes_utf8, length-SealName, joined_shorter}
use Rattle.path_seal.proofs.Apart.{stem_names}

-- ---- parts

pub dec_both : {P Q : Type 0} → Dec P → Dec Q → Dec (P × Q)
dec_both {P} {Q} (yes p) (yes q) = yes (p, q)
dec_both {P} {Q} (yes p) (no q) = no (λ h. q h.1)
dec_both {P} {Q} (no p) q = no (λ h. p h.0)

pub dec_either : {P Q : Type 0} → Dec P → Dec Q → Dec (P ⊎ Q)
dec_either {P} {Q} (yes p) q = yes (inl p)
dec_either {P} {Q} (no p) (yes q) = yes (inr q)
dec_either {P} {Q} (no p) (no q) = no (neither p q)
  where
    neither : (P → ⊥) → (Q → ⊥) → P ⊎ Q → ⊥
    neither f g (inl x) = f x
    neither f g (inr y) = g y

pub dec_not : {P : Type 0} → Dec P → Dec (P → ⊥)
dec_not {P} (yes p) = no (λ f. f p)
dec_not {P} (no p) = yes p

dec_from : {P Q : Type 0} → (P → Q) → (Q → P) → Dec P → Dec Q
dec_from {P} {Q} f g (yes p) = yes (f p)
dec_from {P} {Q} f g (no h) = no (λ q. h (g q))

pub dec_number : (m n : ℕ) → Dec (m ≡ n)
dec_number m n = of (cases_eq m n)
  where
    of : (m ≡ n) ⊎ (m ≡ n → ⊥) → Dec (m ≡ n)
    of (inl e) = yes e
    of (inr f) = no f

dec_same : (xs ys : List ℕ) → Dec (xs ≡ ys)
dec_same xs ys = dec_of (bytes_eq xs ys) (bytes_eq-Decides xs ys)

dec_all_cons : (P : ℕ → Type 0) (x : ℕ) (xs : List ℕ) → Dec (P x) → Dec (All P xs) → Dec (All P (x ∷ xs))
dec_all_cons P x xs (yes p) (yes q) = yes (All-cons P x xs p q)
dec_all_cons P x xs (yes p) (no q) = no (λ h. q (All-tail P x xs h))
dec_all_cons P x xs (no p) q = no (λ h. p (All-head P x xs h))

dec_all : (P : ℕ → Type 0) → ((x : ℕ) → Dec (P x)) → (xs : List ℕ) → Dec (All P xs)
dec_all P d [] = yes (All-nil P)
dec_all P d (x ∷ xs) = dec_all_cons P x xs (d x) (dec_all P d xs)

-- ---- a search among the numbers below one, and among the texts of so many bytes

last_or_below : (P : ℕ → Type 0) (n : ℕ) → Dec (P n) → Dec ((i : ℕ) × (i < n) × P i) → Dec ((i : ℕ) × (i < suc n) × P i)
last_or_below P n (yes p) d = yes (n, omega arith, p)
last_or_below P n (no f) (yes h) = yes (h.0, omega (arith, h.1), h.2)
last_or_below P n (no f) (no g) = no (λ h. by_cases h.0 h.1 h.2 (cases_lt h.0 n))
  where
    by_cases : (i : ℕ) → i < suc n → P i → (i < n) ⊎ (n ≤ i) → ⊥
    by_cases i l p (inl below) = g (i, below, p)
    by_cases i l p (inr above) = let same : i ≡ n = omega (arith, l, above) in f (subst P same p)

pub dec_below : (P : ℕ → Type 0) → ((i : ℕ) → Dec (P i)) → (n : ℕ) → Dec ((i : ℕ) × (i < n) × P i)
dec_below P d zero = no (λ h. omega (arith, h.1))
dec_below P d (suc n) = last_or_below P n (d n) (dec_below P d n)

-- a list of this length, of numbers below the bound, of which P holds
record Found (bound : ℕ) (size : ℕ) (P : List ℕ → Type 0) : Type 0 where
  list : List ℕ
  sized : length list ≡ size
  small : All (λ b. b < bound) list
  held : P list

dec_nothing : (bound : ℕ) (P : List ℕ → Type 0) → Dec (P []) → Dec (Found bound 0 P)
dec_nothing bound P (yes p) = yes (record { list = []; sized = refl; small = All-nil (λ b. b < bound); held = p })
dec_nothing bound P (no f) = no (λ h. f (empty h.list h.sized h.held))
  where
    empty : (l : List ℕ) → length l ≡ 0 → P l → P []
    empty [] e p = p
    empty (x ∷ xs) e p = absurd (omega (arith, e))

found_cons : (bound size : ℕ) (P : List ℕ → Type 0) → Dec ((b : ℕ) × (b < bound) × Found bound size (λ l. P (b ∷ l))) → Dec (Found bound (suc size) P)
found_cons bound size P (yes h) =
    yes (record { list = h.0 ∷ h.2.list; sized = omega (arith, h.2.sized); small = All-cons (λ b. b < bound) h.0 h.2.list h.1 h.2.small; held = h.2.held })
found_cons bound size P (no f) = no (λ h. none h.list h.sized h.small h.held)
  where
    none : (l : List ℕ) → length l ≡ suc size → All (λ b. b < bound) l → P l → ⊥
    none [] e s p = omega (arith, e)
    none (x ∷ xs) e s p = f (x, All-head (λ b. b < bound) x xs s, record { list = xs; sized = omega (arith, e); small = All-tail (λ b. b < bound) x xs s; held = p })

dec_found : (bound size : ℕ) (P : List ℕ → Type 0) → ((l : List ℕ) → Dec (P l)) → Dec (Found bound size P)
dec_found bound zero P d = dec_nothing bound P (d [])
dec_found bound (suc size) P d = found_cons bound size P (dec_below (λ b. Found bound size (λ l. P (b ∷ l))) (λ b. dec_found bound size (λ l. P (b ∷ l)) (λ l. d (b ∷ l))) bound)

-- ---- names, paths and stems

dec_range : (lo hi c : ℕ) → Dec (IsInRange lo hi c)
dec_range lo hi c = dec_both (dec_le lo c) (dec_le c hi)

dec_forbidden : (c : ℕ) → Dec (IsForbidden c)
dec_forbidden c = dec_either (dec_range _ _ c) (dec_either (dec_range _ _ c) (dec_either (dec_range _ _ c) (dec_range _ _ c)))

dec_true : (b : Bool) → Dec (b ≡ true)
dec_true true = yes refl
dec_true false = no (λ e. cc)

pub dec_component : (n : List ℕ) → Dec (IsComponent n)
dec_component n =
    dec_from (λ h. record { utf8 = IsUtf8-from_is_utf8 n h.0; filled = h.1.0; no_dot = h.1.1.0; no_dots = h.1.1.1.0; no_slash = h.1.1.1.1.0; allowed = h.1.1.1.1.1 })
    (λ h. (is_utf8-from_IsUtf8 n h.utf8, (h.filled, (h.no_dot, (h.no_dots, (h.no_slash, h.allowed))))))
    (dec_both (dec_true (is_utf8 n)) (dec_both (dec_not (dec_same n [])) (dec_both (dec_not (dec_same n (codes "."))) (dec_both (dec_not (dec_same n (codes "..")))
    (dec_both (dec_all (λ b. b ≢ 47) (λ b. dec_not (dec_number b 47)) n) (dec_all (λ c. IsForbidden c → ⊥) (λ c. dec_not (dec_forbidden c)) (chars n)))))))

dec_path_cons : (n : List ℕ) (p : List (List ℕ)) → Dec (IsComponent n) → Dec (IsPath p) → Dec (IsPath (n ∷ p))
dec_path_cons n p (yes h) (yes k) = yes (All-cons IsComponent n p h k)
dec_path_cons n p (yes h) (no f) = no (λ g. f (All-tail IsComponent n p g))
dec_path_cons n p (no f) d = no (λ g. f (All-head IsComponent n p g))

pub dec_path : (p : List (List ℕ)) → Dec (IsPath p)
dec_path [] = yes (All-nil IsComponent)
dec_path (n ∷ p) = dec_path_cons n p (dec_component n) (dec_path p)

dec_stem : (s : List (List ℕ)) → Dec (IsStem s)
dec_stem [] = no (λ h. h)
dec_stem (n ∷ p) = dec_both (dec_component (n ++ codes "0")) (dec_path p)

-- a name has at most the bytes of what it is sealed to, and each is below 256
name_found : (k : Keys) (path : List (List ℕ)) (text name : List ℕ) → OpensName k path text name → Found 256 (length name) (λ n. OpensName k path text n)
name_found k path text name h =
    record { list = name; sized = refl; small = λ i d l. subst (λ (b : ℕ). b < 256) (get_or_default name i 0 d l) (bytes_utf8 name h.0.utf8 i); held = h }

pub dec_opens_name : (k : Keys) (path : List (List ℕ)) (text : List ℕ) → Dec ((name : List ℕ) × OpensName k path text name)
dec_opens_name k path text =
    dec_from (λ h. (h.2.list, h.2.held)) (λ h. (length h.0, omega (arith, length-SealName k path h.0, ap length h.1.1), name_found k path text h.0 h.1))
    (dec_below (λ size. Found 256 size (λ n. OpensName k path text n)) (λ size. dec_found 256 size (λ n. OpensName k path text n) (λ n. dec_both (dec_component n) (dec_same (SealName k path n) text))) (length text + 1))

-- and so has a stem's text
small_name : (n : List ℕ) → IsUtf8 n → All (λ b. b < 256) n
small_name n u i d l = subst (λ (b : ℕ). b < 256) (get_or_default n i 0 d l) (bytes_utf8 n u i)

small_joined : (p : List (List ℕ)) → All IsName p → All (λ b. b < 256) (joined p)
unfolding joined
small_joined [] h = All-nil (λ b. b < 256)
small_joined (n ∷ p) h =
    All-append (λ b. b < 256) (joined p) (47 ∷ n) (small_joined p (All-tail IsName n p h))
    (All-cons (λ b. b < 256) 47 n (omega arith) (small_name n (All-head IsName n p h).utf8))

stem_found : (k : Keys) (text : List ℕ) (s : List (List ℕ)) → OpensStem k text s → Found 256 (length (joined s)) (λ l. OpensStem k text (components l))
stem_found k text s h = record {
  list = joined s;
  sized = refl;
  small = small_joined s (stem_names s h.0);
  held = subst (λ (p : List (List ℕ)). OpensStem k text p) (sym (components-joined s (stem_plain s h.0))) h;
}

-- whether a legal stem is sealed to the text
pub decided_stem : (k : Keys) (text : List ℕ) → Dec ((s : List (List ℕ)) × OpensStem k text s)
decided_stem k text =
    dec_from (λ h. (components h.2.list, h.2.held)) (λ h. (length (joined h.0), omega (arith, joined_shorter k h.0, ap length h.1.1), stem_found k text h.0 h.1))
    (dec_below (λ size. Found 256 size (λ l. OpensStem k text (components l)))
    (λ size. dec_found 256 size (λ l. OpensStem k text (components l)) (λ l. dec_both (dec_stem (components l)) (dec_same (SealStem k (components l)) text))) (length text + 1))
