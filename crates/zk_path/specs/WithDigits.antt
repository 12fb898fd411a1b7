-- Digits keep a stem's last component legal. These lemmas stand among the definitions because the law of an impl cites them.
use Rattle.std.specs.Prelude.{◌≡◌, ◌≢◌, ℕ, ◌+◌, ◌<◌, List, [], ◌∷◌, ◌++◌, length, All}
use Rattle.std.specs.Char.{IsAsciiDigit}
use Rattle.std.specs.Str.{IsUtf8, IsAscii, chars}
use Rattle.std.proofs.Common.{zero, suc, get_or, take, sym, ap, subst, ◌∙◌, refl, arith, append_assoc, length-append, inl, inr}
use Rattle.std.proofs.lemmas.List.{take-append-le, get_or-append-add}
use Rattle.std.proofs.lemmas.List.Elements.{All-nil, All-cons, All-head, All-tail, All-append, All-weaker, All-map, All-same}
use Rattle.std.proofs.lemmas.Str.{IsUtf8-take, IsUtf8-append, IsUtf8-from_ascii, IsCharBoundary-before_ascii, chars-append, chars-IsAscii}
use Rattle.zk_path.specs.Paths.{IsForbidden, HasNoSlash, IsComponent, IsStemEnd, joined}
use Rattle.zk_path.specs.Numbers.{digit_at, ten_digits, IsNumberingOf, IsPlainName}

abbrev AreAllowed : List ℕ → Type 0
AreAllowed cs = All (λ c. IsForbidden c → ⊥) cs

front_all : (P : ℕ → Type 0) (xs ys : List ℕ) → All P (xs ++ ys) → All P xs
front_all P [] ys g = All-nil P
front_all P (x ∷ xs) ys g = All-cons P x xs (All-head P x (xs ++ ys) g) (front_all P xs ys (All-tail P x (xs ++ ys) g))

digits_are_ascii : (ds : List ℕ) → All IsAsciiDigit ds → IsAscii ds
digits_are_ascii [] h i = omega arith
digits_are_ascii (d ∷ ds) h zero = let digit = All-head IsAsciiDigit d ds h in omega arith
digits_are_ascii (d ∷ ds) h (suc i) = digits_are_ascii ds (All-tail IsAsciiDigit d ds h) i

digit_allowed : (c : ℕ) → IsAsciiDigit c → IsForbidden c → ⊥
digit_allowed c h (inl f) = omega arith
digit_allowed c h (inr (inl f)) = omega arith
digit_allowed c h (inr (inr (inl f))) = omega arith
digit_allowed c h (inr (inr (inr f))) = omega arith

-- dots are below the digits
dots_low : (i : ℕ) → get_or (46 ∷ 46 ∷ []) i 0 < 48
dots_low zero = omega arith
dots_low (suc zero) = omega arith
dots_low (suc (suc i)) = omega arith

dot_low : (i : ℕ) → get_or (46 ∷ []) i 0 < 48
dot_low zero = omega arith
dot_low (suc i) = omega arith

first_digit : (n : List ℕ) (d : ℕ) (ds : List ℕ) → get_or (n ++ d ∷ ds) (length n) 0 ≡ d
first_digit n d ds = ap (λ (i : ℕ). get_or (n ++ d ∷ ds) i 0) (sym_plus (length n)) ∙ get_or-append-add n (d ∷ ds) 0 0
  where
    sym_plus : (k : ℕ) → k ≡ k + 0
    sym_plus k = omega arith

apart_from_low : (n : List ℕ) (d : ℕ) (ds low : List ℕ) → IsAsciiDigit d → ((i : ℕ) → get_or low i 0 < 48) → n ++ d ∷ ds ≢ low
apart_from_low n d ds low h below e =
    let at : d ≡ get_or low (length n) 0 = sym (first_digit n d ds) ∙ ap (λ (l : List ℕ). get_or l (length n) 0) e in
    let small = below (length n) in
    omega arith

chars-digits : (n ds : List ℕ) → IsUtf8 n → IsAscii ds → chars (n ++ ds) ≡ chars n ++ ds
chars-digits n ds u a = chars-append n ds u ∙ ap (λ (l : List ℕ). chars n ++ l) (chars-IsAscii ds a)

-- what is legal but for its length and its dots is legal with digits
pub with_digits : (n : List ℕ) (d : ℕ) (ds : List ℕ) → IsUtf8 n → HasNoSlash n → All (λ c. IsForbidden c → ⊥) (chars n) → All IsAsciiDigit (d ∷ ds) → IsComponent (n ++ d ∷ ds)
with_digits n d ds u plain allowed digits =
    let digit = All-head IsAsciiDigit d ds digits in
    let ascii = digits_are_ascii (d ∷ ds) digits in
    record {
      utf8 = IsUtf8-append n (d ∷ ds) u (IsUtf8-from_ascii (d ∷ ds) ascii);
      filled = apart_from_low n d ds [] digit (λ i. omega arith);
      no_dot = apart_from_low n d ds (46 ∷ []) digit dot_low;
      no_dots = apart_from_low n d ds (46 ∷ 46 ∷ []) digit dots_low;
      no_slash = All-append (λ b. b ≢ 47) n (d ∷ ds) plain (All-weaker IsAsciiDigit (λ b. b ≢ 47) (λ b h e. omega arith) (d ∷ ds) digits);
      allowed = All-same (λ c. IsForbidden c → ⊥) (chars (n ++ d ∷ ds)) (chars n ++ d ∷ ds) (chars-digits n (d ∷ ds) u ascii)
          (All-append (λ c. IsForbidden c → ⊥) (chars n) (d ∷ ds) allowed (All-weaker IsAsciiDigit (λ c. IsForbidden c → ⊥) digit_allowed (d ∷ ds) digits));
    }

zero_digit : All IsAsciiDigit (48 ∷ [])
zero_digit = All-cons IsAsciiDigit 48 [] (omega arith, omega arith) (All-nil IsAsciiDigit)

pub stem_end_utf8 : (n : List ℕ) → IsStemEnd n → IsUtf8 n
stem_end_utf8 n h =
    let whole = take-append-le (length n) n (48 ∷ []) (omega arith) in
    let at : get_or (n ++ 48 ∷ []) (length n) 0 < 128 = subst (λ (k : ℕ). k < 128) (sym (first_digit n 48 [])) (omega arith) in
    let within : length n < length (n ++ 48 ∷ []) = omega (arith, length-append n (48 ∷ [])) in
    subst IsUtf8 (whole ∙ take_all n) (IsUtf8-take (n ++ 48 ∷ []) (length n) h.utf8 (IsCharBoundary-before_ascii (n ++ 48 ∷ []) (length n) within at))
  where
    take_all : (l : List ℕ) → take (length l) l ≡ l
    take_all [] = refl
    take_all (x ∷ l) = ap (λ (m : List ℕ). x ∷ m) (take_all l)

pub stem_end_plain : (n : List ℕ) → IsStemEnd n → HasNoSlash n
stem_end_plain n h = front_all (λ b. b ≢ 47) n (48 ∷ []) h.no_slash

pub stem_end_allowed : (n : List ℕ) → IsStemEnd n → All (λ c. IsForbidden c → ⊥) (chars n)
stem_end_allowed n h =
    front_all (λ c. IsForbidden c → ⊥) (chars n) (48 ∷ [])
    (All-same (λ c. IsForbidden c → ⊥) (chars n ++ 48 ∷ []) (chars (n ++ 48 ∷ [])) (sym (chars-digits n (48 ∷ []) (stem_end_utf8 n h) (digits_are_ascii (48 ∷ []) zero_digit))) h.allowed)

pub stem_end : (n : List ℕ) → IsUtf8 n → HasNoSlash n → All (λ c. IsForbidden c → ⊥) (chars n) → IsStemEnd n
stem_end n u plain allowed = with_digits n 48 [] u plain allowed zero_digit

is_digit : (i place : ℕ) → IsAsciiDigit (digit_at i place)
is_digit i place = (omega arith, omega arith)

pub ten_are_digits : (i : ℕ) → All IsAsciiDigit (ten_digits i)
unfolding ten_digits
ten_are_digits i = All-map IsAsciiDigit (digit_at i) (9 ∷ 8 ∷ 7 ∷ 6 ∷ 5 ∷ 4 ∷ 3 ∷ 2 ∷ 1 ∷ 0 ∷ []) (λ k d lt. is_digit i _)

-- a stem's last component with a number
pub numbered_is_component : (n : List ℕ) (i : ℕ) → IsStemEnd n → IsComponent (n ++ ten_digits i)
unfolding ten_digits
numbered_is_component n i h = with_digits n (digit_at i 9) _ (stem_end_utf8 n h) (stem_end_plain n h) (stem_end_allowed n h) (ten_are_digits i)

pub length-ten_digits : (i : ℕ) → length (ten_digits i) ≡ 10
unfolding ten_digits
length-ten_digits i = refl

pub plain_name_keeps : (stem : List ℕ) (number : ℕ) (text : List ℕ) → IsPlainName stem number text → IsNumberingOf stem text
unfolding joined
plain_name_keeps stem number text same = record {
  short = omega (arith, ap length same, length-append stem (ten_digits number), length-ten_digits number);
  legal = λ n p s e. (
    n ++ ten_digits number,
    All-cons IsComponent (n ++ ten_digits number) p (numbered_is_component n number s.0) s.1,
    same ∙ ap (λ (l : List ℕ). l ++ ten_digits number) e ∙ append_assoc (joined p) (47 ∷ n) (ten_digits number),
  );
}

pub one_plain_name : (stem : List ℕ) (number : ℕ) (text other : List ℕ) → IsPlainName stem number text → IsPlainName stem number other → text ≡ other
one_plain_name stem number text other h k = h ∙ sym k
