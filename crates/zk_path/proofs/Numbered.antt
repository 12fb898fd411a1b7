-- Stems and the paths that they number.
use Rattle.std.proofs.Common.{◌≡◌, ◌≢◌, ℕ, ◌+◌, ◌<◌, ◌≤◌, List, [], ◌∷◌, ◌++◌, length, take, get_or, refl, sym, ap, subst, ◌∙◌, append_assoc, arith}
use lib.Utf8.{encode}
use Rattle.std.specs.Char.{IsAsciiDigit}
use Rattle.std.proofs.lemmas.List.{take_more, take_all}
use Rattle.std.proofs.lemmas.Str.{encode_ascii}
use Rattle.std.specs.Prelude.{All}
use Rattle.std.proofs.lemmas.List.Elements.{All-nil, All-cons, All-head, All-tail, All-get_or}
use Rattle.zk_path.specs.Paths.{HasNoSlash, IsComponent, IsPath, IsStem, child_of}
use Rattle.zk_path.specs.Numbers.{numbered, ten_digits, EndsInTenDigits, IsStemOf}
use Rattle.zk_path.specs.WithDigits.{ten_are_digits, length-ten_digits, numbered_is_component}
use Rattle.zk_path.specs.View.{components, IsCut}
use Rattle.zk_path.proofs.Values.{upper_seen}

pub front_all : (xs ys : List ℕ) → HasNoSlash (xs ++ ys) → HasNoSlash xs
front_all [] ys g = All-nil (λ c. c ≢ 47)
front_all (x ∷ xs) ys g = All-cons (λ c. c ≢ 47) x xs (All-head (λ c. c ≢ 47) x (xs ++ ys) g) (front_all xs ys (All-tail (λ c. c ≢ 47) x (xs ++ ys) g))

pub front_plain : {name front : List ℕ} → HasNoSlash name → EndsInTenDigits name front → HasNoSlash front
front_plain {name} {front} h k = front_all front k.digits (subst HasNoSlash k.spelled h)

pub stem_of : {path stem : List (List ℕ)} {above name front : List ℕ} → IsCut path above name → EndsInTenDigits name front → stem ≡ child_of (components above) front → IsStemOf path stem
stem_of {path} {stem} {above} {name} {front} h k e = record {
  name = name;
  front = front;
  above = components above;
  number = k;
  whole = upper_seen h;
  cut = e;
}

pub no_stem_of : {path : List (List ℕ)} {above name : List ℕ} → IsCut path above name → ((front : List ℕ) → EndsInTenDigits name front → ⊥) → (s : List (List ℕ)) → IsStemOf path s → ⊥
no_stem_of {path} {above} {name} h none s k =
    let whole : name ∷ components above ≡ k.name ∷ k.above = sym (upper_seen h) ∙ k.whole in
    let same : k.name ≡ name = cc in
    none k.front (subst (λ (n : List ℕ). EndsInTenDigits n k.front) same k.number)

-- one more digit of a number, written
pub push_digit : (stem items before after : List ℕ) (k ch i : ℕ) → items ≡ ten_digits i → before ≡ stem ++ take k items → k < 10 → ch ≡ get_or items k 0 → after ≡ before ++ encode ch → after ≡ stem ++ take (k + 1) items
push_digit stem items before after k ch i e h lt is added =
    let within : k < length items = omega (arith, ap length e, length-ten_digits i) in
    let digit : IsAsciiDigit (get_or items k 0) = All-get_or IsAsciiDigit items k 0 within (subst (All IsAsciiDigit) (sym e) (ten_are_digits i)) in
    added ∙ ap (λ (l : List ℕ). before ++ l) (encode_ascii ch (omega arith)) ∙ ap (λ (l : List ℕ). l ++ ch ∷ []) h ∙ append_assoc stem (take k items) (ch ∷ [])
    ∙ ap (λ (d : ℕ). stem ++ (take k items ++ d ∷ [])) is ∙ ap (λ (l : List ℕ). stem ++ l) (sym (take_more items k 0 within))

pub all_digits : (stem items text : List ℕ) (k i : ℕ) → items ≡ ten_digits i → text ≡ stem ++ take k items → 10 ≤ k → text ≡ stem ++ ten_digits i
all_digits stem items text k i e h all =
    let whole : take k items ≡ items = take_all k items (omega (arith, ap length e, length-ten_digits i)) in
    h ∙ ap (λ (l : List ℕ). stem ++ l) (whole ∙ e)

pub is_numbered : (s : List (List ℕ)) (i : ℕ) → IsStem s → IsPath (numbered s i) × IsStemOf (numbered s i) s
is_numbered [] i h = absurd h
is_numbered (n ∷ p) i h = (
  All-cons IsComponent (n ++ ten_digits i) p (numbered_is_component n i h.0) h.1,
  record {
    name = n ++ ten_digits i;
    front = n;
    above = p;
    number = record { digits = ten_digits i; ten = length-ten_digits i; decimal = ten_are_digits i; spelled = refl };
    whole = refl;
    cut = refl;
  },
)
