-- Events and their lines.
use Rattle.std.proofs.Common.{◌≡◌, ℕ, ℤ, ◌<◌, ◌^◌, List, ◌++◌, length, drop, Result, Ok, Err, sym, ap, subst, ◌∙◌, arith}
use Rattle.std.proofs.Math.Seq.{drop-append_seam}
use Rattle.std.specs.Prelude.{codes, Option, Some, None, IfOk, IfNone}
use Rattle.std.specs.Fmt.{decimal}
use Rattle.hex.specs.Hex.{decode_of}
use Rattle.hex.proofs.HexLemmas.{decode_of-encode_lower}
use Rattle.hex.specs.declared.error.FromHexError.{FromHexError}
use Rattle.std.proofs.lemmas.Fmt.{decimal_is_IsNumeral, decimal_injective}
use Rattle.std.proofs.lemmas.Str.Parse.{digit_at}
use Rattle.replay_cli.specs.declared.script.Event.{Event}
use Rattle.replay_cli.specs.declared.script.Event.TheVariants.{Open, Send, Up, Down, Cut, Time, Tick, Drain}
use Rattle.replay_cli.specs.declared.hostile_script.HostileEvent.{HostileEvent}
use Rattle.replay_cli.specs.declared.hostile_script.HostileEvent.TheVariants.{Client, Store, ClientEnd, StoreEnd}
use Rattle.replay_cli.specs.HostileScript.{hostile_event_text, IsLineOf, IsHostileEvent}
use Rattle.replay_cli.specs.Lines.{spaced}
use Rattle.replay_cli.specs.Reading.{HasNoSpace, IsHex, IsEvent}
use Rattle.replay_cli.proofs.LineLemmas.{no_space, spaceless, one_word}

pub decoded : (text b : List ℕ) → IsHex text b → decode_of text ≡ Ok b
decoded text b h = ap decode_of h.0 ∙ decode_of-encode_lower b h.1.1

-- a text stands for no other bytes than those that it decodes to
pub unhexed : (text a b : List ℕ) → decode_of text ≡ Ok a → IsHex text b → a ≡ b
unhexed text a b e h = let k = decoded text b h in cc

pub not_hex : (text b : List ℕ) (f : FromHexError) → decode_of text ≡ Err f → IsHex text b → ⊥
not_hex text b f e h = let k = decoded text b h in cc

-- What stands in front

pub digits_spaceless : (n : ℕ) → n < 2 ^ 64 → HasNoSpace (decimal n)
digits_spaceless n fits =
    let digits = decimal_is_IsNumeral n fits in
    no_space (decimal n) (λ k lt. let d = digit_at (decimal n) k digits.0.1 lt in λ e. omega (arith, d, e))

-- a text without a space has no number before one
pub none_before : (text rest : List ℕ) (n : ℕ) → HasNoSpace text → text ≡ spaced (decimal n) rest → ⊥
none_before text rest n none e = spaceless (decimal n) rest (subst HasNoSpace e none)

-- the first word is the number before the first space
pub word_is : (text word more rest : List ℕ) (n : ℕ) → n < 2 ^ 64 → HasNoSpace word → text ≡ spaced word more → text ≡ spaced (decimal n) rest → (word ≡ decimal n) × (more ≡ rest)
word_is text word more rest n fits none cut is = one_word word (decimal n) more rest none (digits_spaceless n fits) (sym cut ∙ is)

-- there is one number before the first space, and one text behind it
pub one_before : (text x y : List ℕ) (m n : ℕ) → m < 2 ^ 64 → n < 2 ^ 64 → text ≡ spaced (decimal m) x → text ≡ spaced (decimal n) y → (m ≡ n) × (x ≡ y)
one_before text x y m n p q d e =
    let w = word_is text (decimal m) x y n q (digits_spaceless m p) d e in
    (decimal_injective m n p q w.0, w.1)

-- behind a front there is one text
pub one_behind : (line front a b : List ℕ) → line ≡ front ++ a → line ≡ front ++ b → a ≡ b
one_behind line front a b d e = sym (drop-append_seam front a) ∙ ap (drop (length front)) (sym d ∙ e) ∙ drop-append_seam front b

-- what stands behind a front and a number
pub one_rest : (line front text rest args : List ℕ) (m n : ℕ) → m < 2 ^ 64 → n < 2 ^ 64 → line ≡ front ++ text → text ≡ spaced (decimal m) rest → line ≡ front ++ spaced (decimal n) args
    → (m ≡ n) × (rest ≡ args)
one_rest line front text rest args m n p q cut is whole = one_before text rest args m n p q is (one_behind line front text (spaced (decimal n) args) cut whole)

-- Lines that are no event's, kind by kind

pub no_event : (line : List ℕ) (opened : ℕ)
    → ((c : ℕ) (bytes : List ℕ) → IsEvent line opened (Send c bytes) → ⊥)
    → (IsEvent line opened Open → ⊥) × (IsEvent line opened Tick → ⊥) × (IsEvent line opened Drain → ⊥)
    → ((c first second : ℕ) → IsEvent line opened (Up c first second) → ⊥)
    → ((c limit : ℕ) → IsEvent line opened (Down c limit) → ⊥)
    → ((c : ℕ) → IsEvent line opened (Cut c) → ⊥)
    → ((now : ℤ) → IsEvent line opened (Time now) → ⊥)
    → (event : Event) → IsEvent line opened event → ⊥
no_event line opened send words up down cut time Open is = words.0 is
no_event line opened send words up down cut time (Send c bytes) is = send c bytes is
no_event line opened send words up down cut time (Up c first second) is = up c first second is
no_event line opened send words up down cut time (Down c limit) is = down c limit is
no_event line opened send words up down cut time (Cut c) is = cut c is
no_event line opened send words up down cut time (Time now) is = time now is
no_event line opened send words up down cut time Tick is = words.1 is
no_event line opened send words up down cut time Drain is = words.2 is

-- a fact of an answer that found nothing, from another

pub none_so : {A : Type 0} (o : Option A) (P Q : Type 0) → (P → Q) → IfNone o P → IfNone o Q
none_so None P Q f h = f h
none_so (Some x) P Q f h = tt

pub none_within : {A E : Type 0} (r : Result (Option A) E) (P Q : Type 0) → (P → Q) → IfOk r (λ o. IfNone o P) → IfOk r (λ o. IfNone o Q)
none_within (Ok o) P Q f h = none_so o P Q f h
none_within (Err e) P Q f h = tt

-- Hostile scripts

pub no_hostile_event : (line : List ℕ) → ((bytes : List ℕ) → IsLineOf (codes "client ") line bytes → ⊥) → ((bytes : List ℕ) → IsLineOf (codes "store ") line bytes → ⊥)
    → (IsHostileEvent line ClientEnd → ⊥) × (IsHostileEvent line StoreEnd → ⊥) → (event : HostileEvent) → IsHostileEvent line event → ⊥
unfolding hostile_event_text
no_hostile_event line client store ends (Client bytes) is = client bytes is
no_hostile_event line client store ends (Store bytes) is = store bytes is
no_hostile_event line client store ends ClientEnd is = ends.0 is
no_hostile_event line client store ends StoreEnd is = ends.1 is

pub client_event : (line bytes : List ℕ) → IsLineOf (codes "client ") line bytes → IsHostileEvent line (Client bytes)
unfolding hostile_event_text
client_event line bytes is = is

pub store_event : (line bytes : List ℕ) → IsLineOf (codes "store ") line bytes → IsHostileEvent line (Store bytes)
unfolding hostile_event_text
store_event line bytes is = is
