-- What opens and what is legal can be decided: a name is shorter than what it is sealed to, so that there are only so many.
use lib.Dec.{T}
use lib.Signed.{le_z}
use Rattle.std.proofs.Common.{◌≡◌, ◌≢◌, ◌⊎◌, ◌<◌, ◌≤◌, ◌+◌, ℕ, zero, suc, ℤ, pos, negsuc, Bool, true, false, List, [], ◌∷◌, ◌++◌, length, inl, inr, refl, sym, ap, ◌∙◌, subst, arith, All, codes, Option, Some, None}
use Rattle.std.specs.Prelude.{◌≤ℤ◌, ◌-ℤ◌}
use Rattle.std.proofs.lemmas.Bool.{cases_lt, cases_eq}
use Rattle.std.proofs.lemmas.List.{get_or_default}
use Rattle.std.proofs.lemmas.List.Elements.{All-nil, All-cons, All-head, All-tail}
use Rattle.std.proofs.lemmas.Str.{IsUtf8-from_is_utf8, is_utf8-from_IsUtf8}
use Rattle.std.proofs.Math.Decide.{dec_le}
use Rattle.std.specs.Char.{IsAsciiDigit}
use Rattle.std.specs.Int.{IsInRange}
use Rattle.std.specs.Str.{is_utf8, chars}
use Rattle.zk_path.specs.Paths.{IsForbidden, IsComponent, IsPath, text_of}
use Rattle.zk_path.specs.Numbers.{IsStemOf}
use Rattle.path_seal.specs.Sealed.{Keys, SealName, SealPath, Opens, OpensName}
use Rattle.path_seal.proofs.NameBytes.{bytes_utf8, length-SealName}
use Rattle.zk_messages.specs.Refuses.{IsOpen, open_acl}
use Rattle.zk_records.specs.declared.acl.Acl.{Acl}
use Rattle.reply_rewrite.proofs.Opening.{dec_same}
use Rattle.reply_rewrite.specs.Children.{name_at, OpensAt, StandsEarlier}
use Rattle.reply_rewrite.specs.Names.{IsCreated, IsNotCreated}
use Rattle.reply_rewrite.specs.Stats.{IsPlainLength}

-- ---- parts

pub dec_both : {P Q : Type 0} → Dec P → Dec Q → Dec (P × Q)
dec_both {P} {Q} (yes p) (yes q) = yes (p, q)
dec_both {P} {Q} (yes p) (no q) = no (λ h. q h.1)
dec_both {P} {Q} (no p) q = no (λ h. p h.0)

pub dec_either : {P Q : Type 0} → Dec P → Dec Q → Dec (P ⊎ Q)
dec_either {P} {Q} (yes p) q = yes (inl p)
dec_either {P} {Q} (no p) (yes q) = yes (inr q)
dec_either {P} {Q} (no p) (no q) = no (neither p q)
  where
    neither : (P → ⊥) → (Q → ⊥) → P ⊎ Q → ⊥
    neither f g (inl x) = f x
    neither f g (inr y) = g y

pub dec_not : {P : Type 0} → Dec P → Dec (P → ⊥)
dec_not {P} (yes p) = no (λ f. f p)
dec_not {P} (no p) = yes p

dec_from : {P Q : Type 0} → (P → Q) → (Q → P) → Dec P → Dec Q
dec_from {P} {Q} f g (yes p) = yes (f p)
dec_from {P} {Q} f g (no h) = no (λ q. h (g q))

pub dec_number : (m n : ℕ) → Dec (m ≡ n)
dec_number m n = of (cases_eq m n)
  where
    of : (m ≡ n) ⊎ (m ≡ n → ⊥) → Dec (m ≡ n)
    of (inl e) = yes e
    of (inr f) = no f

digits_of : ℤ → ℕ
digits_of (pos n) = n
digits_of (negsuc n) = n

one_pos : (m n : ℕ) → pos m ≡ pos n → m ≡ n
unfolding digits_of
one_pos m n e = ap digits_of e

one_negsuc : (m n : ℕ) → negsuc m ≡ negsuc n → m ≡ n
unfolding digits_of
one_negsuc m n e = ap digits_of e

pub dec_integer : (x y : ℤ) → Dec (x ≡ y)
dec_integer (pos m) (pos n) = dec_from (ap pos) (one_pos m n) (dec_number m n)
dec_integer (pos m) (negsuc n) = no (λ e. cc)
dec_integer (negsuc m) (pos n) = no (λ e. cc)
dec_integer (negsuc m) (negsuc n) = dec_from (ap negsuc) (one_negsuc m n) (dec_number m n)

dec_all_cons : (P : ℕ → Type 0) (x : ℕ) (xs : List ℕ) → Dec (P x) → Dec (All P xs) → Dec (All P (x ∷ xs))
dec_all_cons P x xs (yes p) (yes q) = yes (All-cons P x xs p q)
dec_all_cons P x xs (yes p) (no q) = no (λ h. q (All-tail P x xs h))
dec_all_cons P x xs (no p) q = no (λ h. p (All-head P x xs h))

dec_all : (P : ℕ → Type 0) → ((x : ℕ) → Dec (P x)) → (xs : List ℕ) → Dec (All P xs)
dec_all P d [] = yes (All-nil P)
dec_all P d (x ∷ xs) = dec_all_cons P x xs (d x) (dec_all P d xs)

-- ---- a search among the numbers below one, and among the texts of so many bytes

last_or_below : (P : ℕ → Type 0) (n : ℕ) → Dec (P n) → Dec ((i : ℕ) × (i < n) × P i) → Dec ((i : ℕ) × (i < suc n) × P i)
last_or_below P n (yes p) d = yes (n, omega arith, p)
last_or_below P n (no f) (yes h) = yes (h.0, omega (arith, h.1), h.2)
last_or_below P n (no f) (no g) = no (λ h. by_cases h.0 h.1 h.2 (cases_lt h.0 n))
  where
    by_cases : (i : ℕ) → i < suc n → P i → (i < n) ⊎ (n ≤ i) → ⊥
    by_cases i l p (inl below) = g (i, below, p)
    by_cases i l p (inr above) = let same : i ≡ n = omega (arith, l, above) in f (subst P same p)

pub dec_below : (P : ℕ → Type 0) → ((i : ℕ) → Dec (P i)) → (n : ℕ) → Dec ((i : ℕ) × (i < n) × P i)
dec_below P d zero = no (λ h. omega (arith, h.1))
dec_below P d (suc n) = last_or_below P n (d n) (dec_below P d n)

-- a list of this length, of numbers below the bound, of which P holds
record Found (bound : ℕ) (size : ℕ) (P : List ℕ → Type 0) : Type 0 where
  list : List ℕ
  sized : length list ≡ size
  small : All (λ b. b < bound) list
  held : P list

dec_nothing : (bound : ℕ) (P : List ℕ → Type 0) → Dec (P []) → Dec (Found bound 0 P)
dec_nothing bound P (yes p) = yes (record { list = []; sized = refl; small = All-nil (λ b. b < bound); held = p })
dec_nothing bound P (no f) = no (λ h. f (empty h.list h.sized h.held))
  where
    empty : (l : List ℕ) → length l ≡ 0 → P l → P []
    empty [] e p = p
    empty (x ∷ xs) e p = absurd (omega (arith, e))

found_cons : (bound size : ℕ) (P : List ℕ → Type 0) → Dec ((b : ℕ) × (b < bound) × Found bound size (λ l. P (b ∷ l))) → Dec (Found bound (suc size) P)
found_cons bound size P (yes h) =
    yes (record { list = h.0 ∷ h.2.list; sized = omega (arith, h.2.sized); small = All-cons (λ b. b < bound) h.0 h.2.list h.1 h.2.small; held = h.2.held })
found_cons bound size P (no f) = no (λ h. none h.list h.sized h.small h.held)
  where
    none : (l : List ℕ) → length l ≡ suc size → All (λ b. b < bound) l → P l → ⊥
    none [] e s p = omega (arith, e)
    none (x ∷ xs) e s p = f (x, All-head (λ b. b < bound) x xs s, record { list = xs; sized = omega (arith, e); small = All-tail (λ b. b < bound) x xs s; held = p })

dec_found : (bound size : ℕ) (P : List ℕ → Type 0) → ((l : List ℕ) → Dec (P l)) → Dec (Found bound size P)
dec_found bound zero P d = dec_nothing bound P (d [])
dec_found bound (suc size) P d = found_cons bound size P (dec_below (λ b. Found bound size (λ l. P (b ∷ l))) (λ b. dec_found bound size (λ l. P (b ∷ l)) (λ l. d (b ∷ l))) bound)

-- ---- names and paths

dec_range : (lo hi c : ℕ) → Dec (IsInRange lo hi c)
dec_range lo hi c = dec_both (dec_le lo c) (dec_le c hi)

dec_forbidden : (c : ℕ) → Dec (IsForbidden c)
dec_forbidden c = dec_either (dec_range _ _ c) (dec_either (dec_range _ _ c) (dec_either (dec_range _ _ c) (dec_range _ _ c)))

dec_true : (b : Bool) → Dec (b ≡ true)
dec_true true = yes refl
dec_true false = no (λ e. cc)

dec_component : (n : List ℕ) → Dec (IsComponent n)
dec_component n =
    dec_from (λ h. record { utf8 = IsUtf8-from_is_utf8 n h.0; filled = h.1.0; no_dot = h.1.1.0; no_dots = h.1.1.1.0; no_slash = h.1.1.1.1.0; allowed = h.1.1.1.1.1 })
    (λ h. (is_utf8-from_IsUtf8 n h.utf8, (h.filled, (h.no_dot, (h.no_dots, (h.no_slash, h.allowed))))))
    (dec_both (dec_true (is_utf8 n)) (dec_both (dec_not (dec_same n [])) (dec_both (dec_not (dec_same n (codes "."))) (dec_both (dec_not (dec_same n (codes "..")))
    (dec_both (dec_all (λ b. b ≢ 47) (λ b. dec_not (dec_number b 47)) n) (dec_all (λ c. IsForbidden c → ⊥) (λ c. dec_not (dec_forbidden c)) (chars n)))))))

dec_path_cons : (n : List ℕ) (p : List (List ℕ)) → Dec (IsComponent n) → Dec (IsPath p) → Dec (IsPath (n ∷ p))
dec_path_cons n p (yes h) (yes k) = yes (All-cons IsComponent n p h k)
dec_path_cons n p (yes h) (no f) = no (λ g. f (All-tail IsComponent n p g))
dec_path_cons n p (no f) d = no (λ g. f (All-head IsComponent n p g))

dec_path : (p : List (List ℕ)) → Dec (IsPath p)
dec_path [] = yes (All-nil IsComponent)
dec_path (n ∷ p) = dec_path_cons n p (dec_component n) (dec_path p)

pub dec_opens : (k : Keys) (text : List ℕ) (p : List (List ℕ)) → Dec (Opens k text p)
dec_opens k text p = dec_both (dec_path p) (dec_same (SealPath k p) text)

-- a name has at most the bytes of what it is sealed to, and each is below 256
name_found : (k : Keys) (path : List (List ℕ)) (text name : List ℕ) → OpensName k path text name → Found 256 (length name) (λ n. OpensName k path text n)
name_found k path text name h =
    record { list = name; sized = refl; small = λ i d l. subst (λ (b : ℕ). b < 256) (get_or_default name i 0 d l) (bytes_utf8 name h.0.utf8 i); held = h }

pub dec_opens_name : (k : Keys) (path : List (List ℕ)) (text : List ℕ) → Dec ((name : List ℕ) × OpensName k path text name)
dec_opens_name k path text =
    dec_from (λ h. (h.2.list, h.2.held)) (λ h. (length h.0, omega (arith, length-SealName k path h.0, ap length h.1.1), name_found k path text h.0 h.1))
    (dec_below (λ size. Found 256 size (λ n. OpensName k path text n)) (λ size. dec_found 256 size (λ n. OpensName k path text n) (λ n. dec_both (dec_component n) (dec_same (SealName k path n) text))) (length text + 1))

pub dec_opens_at : (k : Keys) (path stored : List (List ℕ)) (i : ℕ) → Dec (OpensAt k path stored i)
dec_opens_at k path stored i = dec_opens_name k path (name_at stored i)

pub dec_earlier : (stored : List (List ℕ)) (i : ℕ) → Dec (StandsEarlier stored i)
dec_earlier stored i = dec_below (λ j. name_at stored j ≡ name_at stored i) (λ j. dec_same (name_at stored j) (name_at stored i)) i

-- ---- created nodes

dec_digit : (c : ℕ) → Dec (IsAsciiDigit c)
dec_digit c = dec_both (dec_le 48 c) (dec_le c 57)

abbrev IsNumbered : Keys → List ℕ → List ℕ → List (List ℕ) → List ℕ → Type 0
IsNumbered k text front above digits = All IsAsciiDigit digits × Opens k text ((front ++ digits) ∷ above)

dec_numbered : (k : Keys) (text front : List ℕ) (above : List (List ℕ)) → Dec (Found 58 10 (IsNumbered k text front above))
dec_numbered k text front above = dec_found 58 10 (IsNumbered k text front above) (λ digits. dec_both (dec_all IsAsciiDigit dec_digit digits) (dec_opens k text ((front ++ digits) ∷ above)))

pub CreatedOrNot : Keys → List (List ℕ) → Bool → List ℕ → Type 0
CreatedOrNot k asked sequential text = ((plain : List ℕ) × IsCreated k asked sequential text plain) ⊎ IsNotCreated k asked sequential text

abbrev first_of : List (List ℕ) → List ℕ
first_of [] = []
first_of (n ∷ p) = n

abbrev rest_of : List (List ℕ) → List (List ℕ)
rest_of [] = []
rest_of (n ∷ p) = p

from_numbered : (k : Keys) (text front : List ℕ) (above : List (List ℕ)) → Dec (Found 58 10 (IsNumbered k text front above)) → CreatedOrNot k (front ∷ above) true text
unfolding CreatedOrNot
from_numbered k text front above (yes h) =
    inl (
      text_of ((front ++ h.list) ∷ above),
      record {
        path = (front ++ h.list) ∷ above;
        opened = h.held.1;
        made = record { name = front ++ h.list; front = front; above = above; number = record { digits = h.list; ten = h.sized; decimal = h.held.0; spelled = refl }; whole = refl; cut = refl };
        spelled = refl;
      },
    )
from_numbered k text front above (no f) = inr (λ path opened made. f (numbered path made opened))
  where
    numbered : (path : List (List ℕ)) → IsStemOf path (front ∷ above) → Opens k text path → Found 58 10 (IsNumbered k text front above)
    numbered path made opened =
        let fronts : front ≡ made.front = ap (λ (l : List (List ℕ)). first_of l) made.cut in
        let aboves : above ≡ made.above = ap (λ (l : List (List ℕ)). rest_of l) made.cut in
        let name : made.name ≡ front ++ made.number.digits = made.number.spelled ∙ ap (λ (l : List ℕ). l ++ made.number.digits) (sym fronts) in
        let up = sym aboves in
        let whole : path ≡ (front ++ made.number.digits) ∷ above = made.whole ∙ (λ i. name i ∷ up i) in
        record { list = made.number.digits; sized = made.number.ten; small = λ i d l. omega (arith, (made.number.decimal i d l).1); held = (made.number.decimal, subst (λ (p : List (List ℕ)). Opens k text p) whole opened) }

from_same : (k : Keys) (asked : List (List ℕ)) (text : List ℕ) → Dec (Opens k text asked) → CreatedOrNot k asked false text
unfolding CreatedOrNot
from_same k asked text (yes h) = inl (text_of asked, record { path = asked; opened = h; made = refl; spelled = refl })
from_same k asked text (no f) = inr (λ path opened made. f (subst (λ (p : List (List ℕ)). Opens k text p) made opened))

pub created_judged : (k : Keys) (asked : List (List ℕ)) (sequential : Bool) (text : List ℕ) → ((plain : List ℕ) × IsCreated k asked sequential text plain) ⊎ IsNotCreated k asked sequential text
unfolding CreatedOrNot
created_judged k asked false text = from_same k asked text (dec_opens k text asked)
created_judged k [] true text = inr (λ path opened made. let none : [] ≡ made.front ∷ made.above = made.cut in cc)
created_judged k (front ∷ above) true text = from_numbered k text front above (dec_numbered k text front above)

-- ---- lengths

dec_test : (b : Bool) → Dec (T b)
dec_test true = yes tt
dec_test false = no (λ h. h)

dec_long : (stored : ℤ) → Dec (pos 61 ≤ℤ stored)
dec_long stored = dec_from (λ h. record { le = h }) (λ h. h.le) (dec_test (le_z (pos 61) stored))

pub dec_length : (path : List (List ℕ)) (stored plain : ℤ) → Dec (IsPlainLength path stored plain)
dec_length [] stored plain = dec_both (dec_integer stored (pos 0)) (dec_integer plain (pos 0))
dec_length (n ∷ p) stored plain = dec_both (dec_long stored) (dec_integer plain (stored -ℤ pos 61))

from_root : (stored : ℤ) → Dec (stored ≡ pos 0) → ((plain : ℤ) × IsPlainLength [] stored plain) ⊎ ((plain : ℤ) → IsPlainLength [] stored plain → ⊥)
from_root stored (yes e) = inl (pos 0, (e, refl))
from_root stored (no f) = inr (λ plain h. f h.0)

from_long : (n : List ℕ) (p : List (List ℕ)) (stored : ℤ) → Dec (pos 61 ≤ℤ stored) → ((plain : ℤ) × IsPlainLength (n ∷ p) stored plain) ⊎ ((plain : ℤ) → IsPlainLength (n ∷ p) stored plain → ⊥)
from_long n p stored (yes h) = inl (stored -ℤ pos 61, (h, refl))
from_long n p stored (no f) = inr (λ plain h. f h.0)

pub length_judged : (path : List (List ℕ)) (stored : ℤ) → ((plain : ℤ) × IsPlainLength path stored plain) ⊎ ((plain : ℤ) → IsPlainLength path stored plain → ⊥)
length_judged [] stored = from_root stored (dec_integer stored (pos 0))
length_judged (n ∷ p) stored = from_long n p stored (dec_long stored)

-- ---- the one list of ACLs

acl_is_open : (a : Acl) → (a.perms ≡ pos 31) × ((a.scheme ≡ codes "world") × (a.id ≡ codes "anyone")) → a ≡ open_acl
acl_is_open a h = let perms = h.0 in let scheme = h.1.0 in let id = h.1.1 in (λ i. record { perms = perms i; scheme = scheme i; id = id i })

dec_open_acl : (a : Acl) → Dec (a ≡ open_acl)
dec_open_acl a =
    dec_from (acl_is_open a) (λ e. (ap (λ (x : Acl). x.perms) e, (ap (λ (x : Acl). x.scheme) e, ap (λ (x : Acl). x.id) e)))
    (dec_both (dec_integer a.perms (pos 31)) (dec_both (dec_same a.scheme (codes "world")) (dec_same a.id (codes "anyone"))))

head_of : Option (List Acl) → Acl
head_of (Some (a ∷ rest)) = a
head_of list = open_acl

count_of : Option (List Acl) → ℕ
count_of None = 0
count_of (Some list) = length list

other_count : (x y : Option (List Acl)) → x ≡ y → count_of x ≡ count_of y
other_count x y e = ap count_of e

pub dec_open_acls : (list : Option (List Acl)) → Dec (IsOpen list)
unfolding head_of count_of
dec_open_acls None = no (λ e. cc)
dec_open_acls (Some []) = no (λ e. omega (arith, other_count _ _ e))
dec_open_acls (Some (a ∷ [])) = dec_from (ap (λ (x : Acl). Some (x ∷ []))) (ap head_of) (dec_open_acl a)
dec_open_acls (Some (a ∷ (b ∷ rest))) = no (λ e. omega (arith, other_count _ _ e))
