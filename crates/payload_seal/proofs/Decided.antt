-- A payload is accepted for a path with a content, or has a flaw.
use Rattle.std.proofs.Common.{◌≡◌, ℕ, zero, suc, ◌-◌, ◌<◌, ◌≤◌, ◌⊎◌, List, [], ◌∷◌, ◌++◌, length, take, drop, All, Bool, true, false, Option, Some, None, inl, inr, refl, sym, ap, ◌∙◌, subst, arith, length-append}
use Rattle.std.proofs.lemmas.Bool.{false≢true, cases_lt}
use Rattle.std.specs.Bool.{Decides}
use Rattle.std.specs.Str.{bytes_eq}
use Rattle.std.specs.Char.{IsAsciiDigit}
use Rattle.std.proofs.lemmas.Slice.Eq.{bytes_eq-Decides}
use Rattle.std.proofs.lemmas.List.{take-append-drop, length-take-le, length-drop}
use Rattle.std.proofs.lemmas.List.Elements.{All-cons, All-head, All-tail}
use Rattle.std.proofs.Math.Decide.{dec_le, dec_lt}
use Rattle.sha2.specs.Sha256.{sha256}
use Rattle.gcm_mode.specs.Gcm.{gcm_tag, text_under}
use Rattle.gcm_mode.proofs.Counting.{length-text_under}
use Rattle.zk_path.specs.Paths.{text_of}
use Rattle.zk_path.specs.Numbers.{EndsInTenDigits, IsStemOf}
use Rattle.path_seal.specs.Names.{IsCut}
use Rattle.payload_seal.specs.declared.opening.Flaw.TheVariants.{Short, UnknownEpoch, BadTag, BadFlag, WrongPath}
use Rattle.payload_seal.specs.Keys.{epoch_of, key_of}
use Rattle.payload_seal.specs.Payload.{flag_of, content_of, OpensTo, IsDigestFor, Accepts}
use Rattle.payload_seal.specs.Flaws.{IsPlain, IsBadFlag, is_sequential}
use Rattle.payload_seal.specs.Laws.{IsJudged}
use Rattle.payload_seal.proofs.Parts.{same_backs, right_tag, cut_size, cut_epoch, one_stem_of}

-- ---- what can be decided

dec_of : {P : Type 0} (r : Bool) → Decides r P → Dec P
dec_of {P} true h = yes (h.0 refl)
dec_of {P} false h = no (λ p. false≢true (h.1 p))

dec_same : (xs ys : List ℕ) → Dec (xs ≡ ys)
dec_same xs ys = dec_of (bytes_eq xs ys) (bytes_eq-Decides xs ys)

dec_both : {P Q : Type 0} → Dec P → Dec Q → Dec (P × Q)
dec_both {P} {Q} (yes p) (yes q) = yes (p, q)
dec_both {P} {Q} (yes p) (no q) = no (λ h. q h.1)
dec_both {P} {Q} (no p) q = no (λ h. p h.0)

dec_either : {P Q : Type 0} → Dec P → Dec Q → Dec (P ⊎ Q)
dec_either {P} {Q} (yes p) q = yes (inl p)
dec_either {P} {Q} (no p) (yes q) = yes (inr q)
dec_either {P} {Q} (no p) (no q) = no (neither p q)
  where
    neither : (P → ⊥) → (Q → ⊥) → P ⊎ Q → ⊥
    neither f g (inl x) = f x
    neither f g (inr y) = g y

dec_not : {P : Type 0} → Dec P → Dec (P → ⊥)
dec_not {P} (yes p) = no (λ f. f p)
dec_not {P} (no p) = yes p

dec_digit : (c : ℕ) → Dec (IsAsciiDigit c)
dec_digit c = dec_both (dec_le 48 c) (dec_le c 57)

dec_cons : (c : ℕ) (cs : List ℕ) → Dec (IsAsciiDigit c) → Dec (All IsAsciiDigit cs) → Dec (All IsAsciiDigit (c ∷ cs))
dec_cons c cs (yes p) (yes q) = yes (All-cons IsAsciiDigit c cs p q)
dec_cons c cs (yes p) (no q) = no (λ h. q (All-tail IsAsciiDigit c cs h))
dec_cons c cs (no p) q = no (λ h. p (All-head IsAsciiDigit c cs h))

dec_digits : (cs : List ℕ) → Dec (All IsAsciiDigit cs)
dec_digits [] = yes (λ k d lt. absurd (omega (arith, lt)))
dec_digits (c ∷ cs) = dec_cons c cs (dec_digit c) (dec_digits cs)

-- ---- the stem of a path

number_of : (name : List ℕ) → 10 ≤ length name → Dec (All IsAsciiDigit (drop (length name - 10) name)) → Dec ((front : List ℕ) × EndsInTenDigits name front)
number_of name long (yes h) =
    yes (
      take (length name - 10) name,
      record {
        digits = drop (length name - 10) name;
        ten = omega (arith, length-drop (length name - 10) name, long);
        decimal = h;
        spelled = sym (take-append-drop (length name - 10) name);
      },
    )
number_of name long (no h) = no (λ k. h (back k.0 k.1))
  where
    back : (front : List ℕ) → EndsInTenDigits name front → All IsAsciiDigit (drop (length name - 10) name)
    back front k =
        let size : length k.digits ≡ length (drop (length name - 10) name) = omega (arith, length-drop (length name - 10) name, k.ten, long) in
        let whole : front ++ k.digits ≡ take (length name - 10) name ++ drop (length name - 10) name = sym k.spelled ∙ sym (take-append-drop (length name - 10) name) in
        subst (λ (cs : List ℕ). All IsAsciiDigit cs) (same_backs front (take (length name - 10) name) k.digits (drop (length name - 10) name) size whole).1 k.decimal

no_room : (name front : List ℕ) → length name < 10 → EndsInTenDigits name front → ⊥
no_room name front h k = omega (arith, ap length k.spelled, length-append front k.digits, k.ten, h)

number_by : (name : List ℕ) → (length name < 10) ⊎ (10 ≤ length name) → Dec ((front : List ℕ) × EndsInTenDigits name front)
number_by name (inl h) = no (λ k. no_room name k.0 h k.1)
number_by name (inr h) = number_of name h (dec_digits (drop (length name - 10) name))

stem_by : (name : List ℕ) (above : List (List ℕ)) → Dec ((front : List ℕ) × EndsInTenDigits name front) → Dec ((stem : List (List ℕ)) × IsStemOf (name ∷ above) stem)
stem_by name above (yes h) = yes (h.0 ∷ above, record { name = name; front = h.0; above = above; number = h.1; whole = refl; cut = refl })
stem_by name above (no h) = no (λ k. h (k.1.front, of_name k.0 k.1))
  where
    of_name : (stem : List (List ℕ)) (k : IsStemOf (name ∷ above) stem) → EndsInTenDigits name k.front
    of_name stem k =
        let whole : name ∷ above ≡ k.name ∷ k.above = k.whole in
        let same : k.name ≡ name = cc in
        subst (λ (n : List ℕ). EndsInTenDigits n k.front) same k.number

root_has_none : (stem : List (List ℕ)) → IsStemOf [] stem → ⊥
root_has_none stem k = omega (arith, ap length k.whole)

dec_stem : (p : List (List ℕ)) → Dec ((stem : List (List ℕ)) × IsStemOf p stem)
dec_stem [] = no (λ k. root_has_none k.0 k.1)
dec_stem (name ∷ above) = stem_by name above (number_by name (cases_lt (length name) 10))

stem_digest : (p s : List (List ℕ)) (digest : List ℕ) → IsStemOf p s → Dec (digest ≡ sha256 (text_of s)) → Dec (IsDigestFor p true digest)
stem_digest p s digest h (yes e) = yes (s, h, e)
stem_digest p s digest h (no f) = no (λ k. f (k.2 ∙ ap (λ (q : List (List ℕ)). sha256 (text_of q)) (one_stem_of p k.0 s k.1 h)))

digest_by : (p : List (List ℕ)) (digest : List ℕ) → Dec ((stem : List (List ℕ)) × IsStemOf p stem) → Dec (IsDigestFor p true digest)
digest_by p digest (yes h) = stem_digest p h.0 digest h.1 (dec_same digest (sha256 (text_of h.0)))
digest_by p digest (no h) = no (λ k. h (k.0, k.1))

dec_digest : (p : List (List ℕ)) (sequential : Bool) (digest : List ℕ) → Dec (IsDigestFor p sequential digest)
dec_digest p false digest = dec_same digest (sha256 (text_of p))
dec_digest p true digest = digest_by p digest (dec_stem p)

-- ---- the flag

dec_bad : (flag : ℕ) (content : List ℕ) → Dec (IsBadFlag flag content)
dec_bad flag content = dec_either (dec_lt 3 flag) (dec_both (dec_le 2 flag) (dec_not (dec_same content [])))

accept : {keys p : List (List ℕ)} {y plain digest content : List ℕ} {flag : ℕ} (s : Bool) (d : Option (List ℕ)) → OpensTo keys y plain → IsPlain plain flag digest content → flag ≡ flag_of s d → content ≡ content_of d → IsDigestFor p s digest → Accepts keys p y d
accept {keys} {p} {y} {plain} {digest} {content} {flag} s d o parts f c h =
    let whole : plain ≡ flag_of s d ∷ (digest ++ content_of d) = parts.whole ∙ (λ i. f i ∷ (digest ++ c i)) in
    record { sequential = s; digest = digest; opened = subst (λ (l : List ℕ). OpensTo keys y l) whole o; for_path = h }

null_content : {flag : ℕ} {content : List ℕ} → (IsBadFlag flag content → ⊥) → 2 ≤ flag → Dec (content ≡ []) → content ≡ []
null_content {flag} {content} good h (yes e) = e
null_content {flag} {content} good h (no f) = absurd (good (inr (h, f)))

four : (n : ℕ) → (3 < n → ⊥) → (n ≡ 0) ⊎ (n ≡ 1) ⊎ (n ≡ 2) ⊎ (n ≡ 3)
four zero h = inl refl
four (suc zero) h = inr (inl refl)
four (suc (suc zero)) h = inr (inr (inl refl))
four (suc (suc (suc zero))) h = inr (inr (inr refl))
four (suc (suc (suc (suc n)))) h = absurd (h (omega arith))

by_flag : {keys p : List (List ℕ)} {y plain digest content : List ℕ} {flag : ℕ} → OpensTo keys y plain → IsPlain plain flag digest content → (IsBadFlag flag content → ⊥) → IsDigestFor p (is_sequential flag) digest → (flag ≡ 0) ⊎ (flag ≡ 1) ⊎ (flag ≡ 2) ⊎ (flag ≡ 3) → (d : Option (List ℕ)) × Accepts keys p y d
by_flag {keys} {p} {y} {plain} {digest} {content} {flag} o parts good h (inl e) =
    (Some content, accept false (Some content) o parts e refl (subst (λ (n : ℕ). IsDigestFor p (is_sequential n) digest) e h))
by_flag {keys} {p} {y} {plain} {digest} {content} {flag} o parts good h (inr (inl e)) =
    (Some content, accept true (Some content) o parts e refl (subst (λ (n : ℕ). IsDigestFor p (is_sequential n) digest) e h))
by_flag {keys} {p} {y} {plain} {digest} {content} {flag} o parts good h (inr (inr (inl e))) =
    (None, accept false None o parts e (null_content good (omega (arith, e)) (dec_same content [])) (subst (λ (n : ℕ). IsDigestFor p (is_sequential n) digest) e h))
by_flag {keys} {p} {y} {plain} {digest} {content} {flag} o parts good h (inr (inr (inr e))) =
    (None, accept true None o parts e (null_content good (omega (arith, e)) (dec_same content [])) (subst (λ (n : ℕ). IsDigestFor p (is_sequential n) digest) e h))

-- ---- the whole payload

from_parts : {keys p : List (List ℕ)} {y plain digest content : List ℕ} {flag : ℕ} → OpensTo keys y plain → IsPlain plain flag digest content → Dec (IsBadFlag flag content) → Dec (IsDigestFor p (is_sequential flag) digest) → IsJudged keys p y
from_parts {keys} {p} {y} {plain} {digest} {content} {flag} o parts (yes b) right =
    inr (BadFlag flag, record { digest = digest; content = content; plain = plain; opened = o; parts = parts; bad = b })
from_parts {keys} {p} {y} {plain} {digest} {content} {flag} o parts (no g) (no w) =
    inr (WrongPath digest (sha256 (text_of p)), record { flag = flag; content = content; plain = plain; opened = o; parts = parts; good = g; other = w; is_asked = refl })
from_parts {keys} {p} {y} {plain} {digest} {content} {flag} o parts (no g) (yes r) =
    inl (by_flag o parts g r (four flag (λ h. g (inl h))))

from_plain : (keys p : List (List ℕ)) (y plain : List ℕ) → OpensTo keys y plain → 33 ≤ length plain → IsJudged keys p y
from_plain keys p y [] o h = absurd (omega (arith, h))
from_plain keys p y (flag ∷ rest) o h =
    let parts : IsPlain (flag ∷ rest) flag (take 32 rest) (drop 32 rest) = record { whole = ap (λ (l : List ℕ). flag ∷ l) (sym (take-append-drop 32 rest)); size = length-take-le 32 rest (omega (arith, h)) } in
    from_parts o parts (dec_bad flag (drop 32 rest)) (dec_digest p (is_sequential flag) (take 32 rest))

from_tag : (keys p : List (List ℕ)) (y iv text tag : List ℕ) → 61 ≤ length y → epoch_of y < length keys → IsCut y iv text tag → Dec (tag ≡ gcm_tag (key_of keys (epoch_of iv)) iv [] text) → IsJudged keys p y
from_tag keys p y iv text tag long known cut (no f) = inr (BadTag, record { long = long; known = known; closed = λ plain o. f (right_tag cut o) })
from_tag keys p y iv text tag long known cut (yes e) =
    let key : List ℕ = key_of keys (epoch_of iv) in
    from_plain keys p y (text_under key iv text) (record { iv = iv; text = text; tag = tag; parts = cut; known = subst (λ (n : ℕ). n < length keys) (cut_epoch cut) known; right = e; opened = refl }) (omega (arith, cut_size cut, length-text_under key iv text, long))

cut_of : (y : List ℕ) → 61 ≤ length y → IsCut y (take 12 y) (take (length y - 28) (drop 12 y)) (drop (length y - 28) (drop 12 y))
cut_of y long = record {
  whole = sym (ap (λ (l : List ℕ). take 12 y ++ l) (take-append-drop (length y - 28) (drop 12 y)) ∙ take-append-drop 12 y);
  iv_size = length-take-le 12 y (omega (arith, long));
  tag_size = omega (arith, length-drop (length y - 28) (drop 12 y), length-drop 12 y, long);
}

from_epoch : (keys p : List (List ℕ)) (y : List ℕ) → 61 ≤ length y → (epoch_of y < length keys) ⊎ (length keys ≤ epoch_of y) → IsJudged keys p y
from_epoch keys p y long (inr h) = inr (UnknownEpoch (epoch_of y), record { long = long; is_first = refl; unknown = h })
from_epoch keys p y long (inl h) =
    let iv : List ℕ = take 12 y in
    from_tag keys p y _ _ _ long h (cut_of y long) (dec_same (drop (length y - 28) (drop 12 y)) (gcm_tag (key_of keys (epoch_of iv)) iv [] (take (length y - 28) (drop 12 y))))

from_size : (keys p : List (List ℕ)) (y : List ℕ) → (length y < 61) ⊎ (61 ≤ length y) → IsJudged keys p y
from_size keys p y (inl h) = inr (Short (length y), (refl, h))
from_size keys p y (inr h) = from_epoch keys p y h (cases_lt (epoch_of y) (length keys))

pub judged : (keys p : List (List ℕ)) (y : List ℕ) → IsJudged keys p y
judged keys p y = from_size keys p y (cases_lt (length y) 61)
