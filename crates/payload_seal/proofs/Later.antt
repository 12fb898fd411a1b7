-- Keys of later epochs change nothing for a payload.
use Rattle.std.proofs.Common.{◌≡◌, ℕ, ◌+◌, ◌*◌, ◌<◌, ◌↔◌, List, [], ◌∷◌, ◌++◌, length, take, drop, Option, sym, ap, ◌∙◌, subst, arith, length-append}
use Rattle.std.proofs.lemmas.List.{get_or_append_left, take-take, drop-take, length-take-le, take-append-drop}
use Rattle.gcm_mode.specs.Gcm.{gcm_tag, text_under}
use Rattle.payload_seal.specs.declared.opening.Flaw.{Flaw}
use Rattle.payload_seal.specs.declared.opening.Flaw.TheVariants.{Short, UnknownEpoch, BadTag, BadFlag, WrongPath}
use Rattle.payload_seal.specs.Keys.{epoch_of, key_of, keys_in, payload_keys}
use Rattle.payload_seal.specs.Payload.{OpensTo, Accepts}
use Rattle.payload_seal.specs.Flaws.{FlawOf}
use Rattle.payload_seal.specs.Laws.{IsKeptByLaterKeys}
use Rattle.payload_seal.proofs.Parts.{cut_epoch}

key_stays : (keys more : List (List ℕ)) (e : ℕ) → e < length keys → key_of (keys ++ more) e ≡ key_of keys e
key_stays keys more e lt = get_or_append_left keys more [] e lt

-- ---- what opens

open_less : (keys more : List (List ℕ)) (y plain : List ℕ) → epoch_of y < length keys → OpensTo (keys ++ more) y plain → OpensTo keys y plain
open_less keys more y plain lt h =
    let known : epoch_of h.iv < length keys = subst (λ (n : ℕ). n < length keys) (cut_epoch h.parts) lt in
    let key = key_stays keys more (epoch_of h.iv) known in
    record {
      iv = h.iv;
      text = h.text;
      tag = h.tag;
      parts = h.parts;
      known = known;
      right = h.right ∙ ap (λ (k : List ℕ). gcm_tag k h.iv [] h.text) key;
      opened = ap (λ (k : List ℕ). text_under k h.iv h.text) (sym key) ∙ h.opened;
    }

open_more : (keys more : List (List ℕ)) (y plain : List ℕ) → OpensTo keys y plain → OpensTo (keys ++ more) y plain
open_more keys more y plain h =
    let key = key_stays keys more (epoch_of h.iv) h.known in
    record {
      iv = h.iv;
      text = h.text;
      tag = h.tag;
      parts = h.parts;
      known = omega (arith, h.known, length-append keys more);
      right = h.right ∙ ap (λ (k : List ℕ). gcm_tag k h.iv [] h.text) (sym key);
      opened = ap (λ (k : List ℕ). text_under k h.iv h.text) key ∙ h.opened;
    }

-- ---- what is accepted

pub accept_less : (keys more p : List (List ℕ)) (y : List ℕ) (d : Option (List ℕ)) → epoch_of y < length keys → Accepts (keys ++ more) p y d → Accepts keys p y d
accept_less keys more p y d lt a = record { sequential = a.sequential; digest = a.digest; opened = open_less keys more y _ lt a.opened; for_path = a.for_path }

accept_more : (keys more p : List (List ℕ)) (y : List ℕ) (d : Option (List ℕ)) → Accepts keys p y d → Accepts (keys ++ more) p y d
accept_more keys more p y d a = record { sequential = a.sequential; digest = a.digest; opened = open_more keys more y _ a.opened; for_path = a.for_path }

-- ---- what is flawed

pub flaw_less : (keys more p : List (List ℕ)) (y : List ℕ) (f : Flaw) → epoch_of y < length keys → FlawOf (keys ++ more) p y f → FlawOf keys p y f
flaw_less keys more p y (Short n) lt h = h
flaw_less keys more p y (UnknownEpoch e) lt h = absurd (omega (arith, lt, h.is_first, h.unknown, length-append keys more))
flaw_less keys more p y BadTag lt h = record { long = h.long; known = lt; closed = λ plain o. h.closed plain (open_more keys more y plain o) }
flaw_less keys more p y (BadFlag f) lt h = record { digest = h.digest; content = h.content; plain = h.plain; opened = open_less keys more y h.plain lt h.opened; parts = h.parts; bad = h.bad }
flaw_less keys more p y (WrongPath e b) lt h = record { flag = h.flag; content = h.content; plain = h.plain; opened = open_less keys more y h.plain lt h.opened; parts = h.parts; good = h.good; other = h.other; is_asked = h.is_asked }

flaw_more : (keys more p : List (List ℕ)) (y : List ℕ) (f : Flaw) → epoch_of y < length keys → FlawOf keys p y f → FlawOf (keys ++ more) p y f
flaw_more keys more p y (Short n) lt h = h
flaw_more keys more p y (UnknownEpoch e) lt h = absurd (omega (arith, lt, h.is_first, h.unknown))
flaw_more keys more p y BadTag lt h = record { long = h.long; known = omega (arith, lt, length-append keys more); closed = λ plain o. h.closed plain (open_less keys more y plain lt o) }
flaw_more keys more p y (BadFlag f) lt h = record { digest = h.digest; content = h.content; plain = h.plain; opened = open_more keys more y h.plain h.opened; parts = h.parts; bad = h.bad }
flaw_more keys more p y (WrongPath e b) lt h = record { flag = h.flag; content = h.content; plain = h.plain; opened = open_more keys more y h.plain h.opened; parts = h.parts; good = h.good; other = h.other; is_asked = h.is_asked }

-- ---- the first 64 bytes of a file

first_key : (file : List ℕ) → payload_keys (take 64 file) 0 ≡ take 16 (drop 16 file) ∷ []
unfolding keys_in
first_key file = ap (λ (key : List ℕ). key ∷ []) (ap (take 16) (drop-take 16 48 file) ∙ take-take 16 48 (drop 16 file) (omega arith))

of_first : (file : List ℕ) (n : ℕ) (p : List (List ℕ)) (y : List ℕ) (d : Option (List ℕ)) → length file ≡ 64 + 16 * n → epoch_of y ≡ 0 → Accepts (payload_keys file n) p y d ↔ Accepts (payload_keys (take 64 file) 0) p y d
of_first file n p y d size first =
    let key : List ℕ = take 16 (drop 16 file) in
    let lt : epoch_of y < length (key ∷ []) = omega (arith, first) in (
      λ a. subst (λ (keys : List (List ℕ)). Accepts keys p y d) (sym (first_key file)) (accept_less (key ∷ []) (keys_in (drop 64 file) n) p y d lt a),
      λ a. accept_more (key ∷ []) (keys_in (drop 64 file) n) p y d (subst (λ (keys : List (List ℕ)). Accepts keys p y d) (first_key file) a),
    )

pub kept_by_later_keys : IsKeptByLaterKeys
kept_by_later_keys = record {
  accepted = λ keys more p y d lt. (accept_less keys more p y d lt, accept_more keys more p y d);
  flawed = λ keys more p y f lt. (flaw_less keys more p y f lt, flaw_more keys more p y f lt);
  of_first = of_first;
}

-- ---- the first key alone

pub first_accepts : (keys p : List (List ℕ)) (y : List ℕ) (d : Option (List ℕ)) (e : ℕ) → e + 1 ≡ length keys → epoch_of y ≡ 0 → Accepts keys p y d → Accepts (take 1 keys) p y d
first_accepts keys p y d e some first a =
    accept_less (take 1 keys) (drop 1 keys) p y d (omega (arith, first, length-take-le 1 keys (omega (arith, some)))) (subst (λ (ks : List (List ℕ)). Accepts ks p y d) (sym (take-append-drop 1 keys)) a)

pub first_flaws : (keys p : List (List ℕ)) (y : List ℕ) (f : Flaw) (e : ℕ) → e + 1 ≡ length keys → epoch_of y ≡ 0 → FlawOf keys p y f → FlawOf (take 1 keys) p y f
first_flaws keys p y f e some first h =
    flaw_less (take 1 keys) (drop 1 keys) p y f (omega (arith, first, length-take-le 1 keys (omega (arith, some)))) (subst (λ (ks : List (List ℕ)). FlawOf ks p y f) (sym (take-append-drop 1 keys)) h)
