-- The laws of payloads.
use Rattle.std.proofs.Common.{◌≡◌, ℕ, ◌+◌, ◌<◌, ◌≤◌, List, [], ◌∷◌, ◌++◌, length, Bool, true, false, Option, Some, None, inl, inr, refl, sym, ap, ◌∙◌, subst, arith}
use Rattle.gcm_mode.specs.Gcm.{gcm_tag, text_under}
use Rattle.gcm_mode.proofs.Counting.{length-gcm_tag}
use Rattle.gcm_mode.proofs.RoundTrip.{opens_exactly}
use Rattle.sha2.specs.Sha256.{sha256}
use Rattle.zk_path.specs.Paths.{text_of}
use Rattle.zk_path.specs.Numbers.{numbered, IsStemOf}
use Rattle.zk_path.proofs.Numbered.{is_numbered}
use Rattle.payload_seal.specs.declared.opening.Flaw.{Flaw}
use Rattle.payload_seal.specs.declared.opening.Flaw.TheVariants.{Short, UnknownEpoch, BadTag, BadFlag, WrongPath}
use Rattle.payload_seal.specs.Keys.{epoch_of, key_of}
use Rattle.payload_seal.specs.Payload.{sequential_bit, flag_of, content_of, plain_payload, SealData, OpensTo, IsDigestFor, Accepts}
use Rattle.payload_seal.specs.Flaws.{IsPlain, IsBadFlag, is_sequential, HasUnknownEpoch, HasBadFlag, HasWrongPath, FlawOf}
use Rattle.payload_seal.specs.Laws.{IsJudgedOnce, IsAcceptedWhenSealed, IsAcceptedWhenNumbered}
use Rattle.payload_seal.proofs.Decided.{judged}
use Rattle.payload_seal.proofs.Parts.{one_plain, opened_epoch, opened_size, plain_size, one_reading, digest_size}

-- ---- flags

small : (s : Bool) → sequential_bit s < 2
small false = omega arith
small true = omega arith

no_null : (s t : Bool) → sequential_bit s + 2 ≡ sequential_bit t → ⊥
no_null s t h = omega (arith, small t, h)

one_content_of : (s t : Bool) (d e : Option (List ℕ)) → flag_of s d ≡ flag_of t e → content_of d ≡ content_of e → d ≡ e
one_content_of s t None None f e = refl
one_content_of s t None (Some x) f e = absurd (no_null s t f)
one_content_of s t (Some x) None f e = absurd (no_null t s (sym f))
one_content_of s t (Some x) (Some y) f e = ap Some e

good_flag : (s : Bool) (d : Option (List ℕ)) → IsBadFlag (flag_of s d) (content_of d) → ⊥
good_flag s None (inl h) = omega (arith, small s, h)
good_flag s None (inr h) = h.1 refl
good_flag s (Some c) (inl h) = omega (arith, small s, h)
good_flag s (Some c) (inr h) = omega (arith, small s, h.0)

sequential_is : (s : Bool) (d : Option (List ℕ)) → is_sequential (flag_of s d) ≡ s
sequential_is false None = refl
sequential_is true None = refl
sequential_is false (Some c) = refl
sequential_is true (Some c) = refl

bad_as : {f g : ℕ} {x y : List ℕ} → f ≡ g → x ≡ y → IsBadFlag f x → IsBadFlag g y
bad_as {f} {g} {x} {y} e h b = subst (λ (n : ℕ). IsBadFlag n y) e (subst (λ (l : List ℕ). IsBadFlag f l) h b)

-- ---- accepted payloads

pub accepted_plain : {keys p : List (List ℕ)} {y : List ℕ} {d : Option (List ℕ)} (a : Accepts keys p y d) → IsPlain (flag_of a.sequential d ∷ (a.digest ++ content_of d)) (flag_of a.sequential d) a.digest (content_of d)
accepted_plain {keys} {p} {y} {d} a = record { whole = refl; size = digest_size p a.sequential a.digest a.for_path }

content_once : (keys p : List (List ℕ)) (y : List ℕ) (d e : Option (List ℕ)) → Accepts keys p y d → Accepts keys p y e → d ≡ e
content_once keys p y d e a b =
    let same = one_reading (one_plain a.opened b.opened) (accepted_plain a) (accepted_plain b) in
    one_content_of a.sequential b.sequential d e same.flag_same same.content_same

long : {keys : List (List ℕ)} {y plain digest content : List ℕ} {flag : ℕ} → OpensTo keys y plain → IsPlain plain flag digest content → 61 ≤ length y
long {keys} {y} {plain} {digest} {content} {flag} h k = omega (arith, opened_size h, plain_size k)

too_short : (y : List ℕ) {n : ℕ} → (n ≡ length y) × (n < 61) → 61 ≤ length y → ⊥
too_short y {n} h k = omega (arith, h.0, h.1, k)

known_not_unknown : {keys : List (List ℕ)} {y : List ℕ} {e : ℕ} → epoch_of y < length keys → HasUnknownEpoch keys y e → ⊥
known_not_unknown {keys} {y} {e} known h = omega (arith, known, h.is_first, h.unknown)

accepted_not_bad : {keys p : List (List ℕ)} {y : List ℕ} {d : Option (List ℕ)} {flag : ℕ} → Accepts keys p y d → HasBadFlag keys y flag → ⊥
accepted_not_bad {keys} {p} {y} {d} {flag} a h =
    let same = one_reading (one_plain h.opened a.opened) h.parts (accepted_plain a) in
    good_flag a.sequential d (bad_as same.flag_same same.content_same h.bad)

accepted_not_wrong : {keys p : List (List ℕ)} {y : List ℕ} {d : Option (List ℕ)} {digest asked : List ℕ} → Accepts keys p y d → HasWrongPath keys p y digest asked → ⊥
accepted_not_wrong {keys} {p} {y} {d} {digest} {asked} a h =
    let same = one_reading (one_plain a.opened h.opened) (accepted_plain a) h.parts in
    let bit : a.sequential ≡ is_sequential h.flag = sym (sequential_is a.sequential d) ∙ ap is_sequential same.flag_same in
    h.other (subst (λ (s : Bool). IsDigestFor p s digest) bit (subst (λ (l : List ℕ). IsDigestFor p a.sequential l) same.digest_same a.for_path))

never_both : (keys p : List (List ℕ)) (y : List ℕ) (d : Option (List ℕ)) (f : Flaw) → Accepts keys p y d → FlawOf keys p y f → ⊥
never_both keys p y d (Short n) a h = too_short y h (long a.opened (accepted_plain a))
never_both keys p y d (UnknownEpoch e) a h = absurd (known_not_unknown (opened_epoch a.opened) h)
never_both keys p y d BadTag a h = h.closed _ a.opened
never_both keys p y d (BadFlag g) a h = accepted_not_bad a h
never_both keys p y d (WrongPath e x) a h = accepted_not_wrong a h

-- ---- flaws

bad_not_wrong : {keys p : List (List ℕ)} {y : List ℕ} {flag : ℕ} {digest asked : List ℕ} → HasBadFlag keys y flag → HasWrongPath keys p y digest asked → ⊥
bad_not_wrong {keys} {p} {y} {flag} {digest} {asked} h k =
    let same = one_reading (one_plain h.opened k.opened) h.parts k.parts in
    k.good (bad_as same.flag_same same.content_same h.bad)

same_flags : {keys : List (List ℕ)} {y : List ℕ} {f g : ℕ} → HasBadFlag keys y f → HasBadFlag keys y g → f ≡ g
same_flags {keys} {y} {f} {g} h k = let same = one_reading (one_plain h.opened k.opened) h.parts k.parts in same.flag_same

same_paths : {keys p : List (List ℕ)} {y : List ℕ} {d e a b : List ℕ} → HasWrongPath keys p y d a → HasWrongPath keys p y e b → WrongPath d a ≡ WrongPath e b
same_paths {keys} {p} {y} {d} {e} {a} {b} h k =
    let same = one_reading (one_plain h.opened k.opened) h.parts k.parts in
    let digest = same.digest_same in
    let asked : a ≡ b = h.is_asked ∙ sym k.is_asked in
    (λ i. WrongPath (digest i) (asked i))

flaw_once : (keys p : List (List ℕ)) (y : List ℕ) (f g : Flaw) → FlawOf keys p y f → FlawOf keys p y g → f ≡ g
flaw_once keys p y (Short n) (Short m) h k = ap Short (h.0 ∙ sym k.0)
flaw_once keys p y (Short n) (UnknownEpoch e) h k = absurd (too_short y h k.long)
flaw_once keys p y (Short n) BadTag h k = absurd (too_short y h k.long)
flaw_once keys p y (Short n) (BadFlag g) h k = absurd (too_short y h (long k.opened k.parts))
flaw_once keys p y (Short n) (WrongPath e b) h k = absurd (too_short y h (long k.opened k.parts))
flaw_once keys p y (UnknownEpoch e) (Short m) h k = absurd (too_short y k h.long)
flaw_once keys p y (UnknownEpoch e) (UnknownEpoch g) h k = ap UnknownEpoch (h.is_first ∙ sym k.is_first)
flaw_once keys p y (UnknownEpoch e) BadTag h k = absurd (known_not_unknown k.known h)
flaw_once keys p y (UnknownEpoch e) (BadFlag g) h k = absurd (known_not_unknown (opened_epoch k.opened) h)
flaw_once keys p y (UnknownEpoch e) (WrongPath d b) h k = absurd (known_not_unknown (opened_epoch k.opened) h)
flaw_once keys p y BadTag (Short m) h k = absurd (too_short y k h.long)
flaw_once keys p y BadTag (UnknownEpoch e) h k = absurd (known_not_unknown h.known k)
flaw_once keys p y BadTag BadTag h k = refl
flaw_once keys p y BadTag (BadFlag g) h k = absurd (h.closed k.plain k.opened)
flaw_once keys p y BadTag (WrongPath e b) h k = absurd (h.closed k.plain k.opened)
flaw_once keys p y (BadFlag f) (Short m) h k = absurd (too_short y k (long h.opened h.parts))
flaw_once keys p y (BadFlag f) (UnknownEpoch e) h k = absurd (known_not_unknown (opened_epoch h.opened) k)
flaw_once keys p y (BadFlag f) BadTag h k = absurd (k.closed h.plain h.opened)
flaw_once keys p y (BadFlag f) (BadFlag g) h k = ap BadFlag (same_flags h k)
flaw_once keys p y (BadFlag f) (WrongPath e b) h k = absurd (bad_not_wrong h k)
flaw_once keys p y (WrongPath d a) (Short m) h k = absurd (too_short y k (long h.opened h.parts))
flaw_once keys p y (WrongPath d a) (UnknownEpoch e) h k = absurd (known_not_unknown (opened_epoch h.opened) k)
flaw_once keys p y (WrongPath d a) BadTag h k = absurd (k.closed h.plain h.opened)
flaw_once keys p y (WrongPath d a) (BadFlag g) h k = absurd (bad_not_wrong k h)
flaw_once keys p y (WrongPath d a) (WrongPath e b) h k = same_paths h k

pub judged_once : IsJudgedOnce
judged_once = record { one_of = judged; one_content = content_once; one_flaw = flaw_once; not_both = never_both }

-- ---- sealed payloads

sealed_opens : (keys : List (List ℕ)) (iv : List ℕ) (p : List (List ℕ)) (s : Bool) (d : Option (List ℕ)) → length iv ≡ 12 → epoch_of iv < length keys → OpensTo keys (SealData keys iv p s d) (flag_of s d ∷ (sha256 (text_of p) ++ content_of d))
unfolding SealData plain_payload
sealed_opens keys iv p s d len known =
    let key : List ℕ = key_of keys (epoch_of iv) in
    let plain : List ℕ = flag_of s d ∷ (sha256 (text_of p) ++ content_of d) in
    let text : List ℕ = text_under key iv plain in
    let tag : List ℕ = gcm_tag key iv [] text in
    let size : length tag ≡ 16 = length-gcm_tag key iv [] text in
    record {
      iv = iv;
      text = text;
      tag = tag;
      parts = record { whole = refl; iv_size = len; tag_size = size };
      known = known;
      right = refl;
      opened = ((opens_exactly key iv [] plain text tag size).1 refl).1;
    }

pub accepted_when_sealed : IsAcceptedWhenSealed
accepted_when_sealed keys iv p d len known = record { sequential = false; digest = sha256 (text_of p); opened = sealed_opens keys iv p false d len known; for_path = refl }

for_stem : (keys : List (List ℕ)) (iv : List ℕ) (s p : List (List ℕ)) (d : Option (List ℕ)) → length iv ≡ 12 → epoch_of iv < length keys → IsStemOf p s → Accepts keys p (SealData keys iv s true d) d
for_stem keys iv s p d len known h = record { sequential = true; digest = sha256 (text_of s); opened = sealed_opens keys iv s true d len known; for_path = (s, h, refl) }

pub accepted_when_numbered : IsAcceptedWhenNumbered
accepted_when_numbered = record {
  any_digits = for_stem;
  any_number = λ keys iv s i d len known h. for_stem keys iv s (numbered s i) d len known (is_numbered s i h).1;
}
