-- Texts of numbers.
use Rattle.std.proofs.Common.{◌≡◌, ◌≢◌, ℕ, zero, suc, ◌<◌, ◌≤◌, ◌^◌, List, length, get_or, sym, ap, subst, ◌∙◌, arith, rules}
use Rattle.std.specs.Fmt.{decimal}
use Rattle.std.specs.Str.{IsUtf8}
use Rattle.std.specs.Str.Parse.{AllDigits, IsNumeral, digits_value, without_leading_plus}
use Rattle.std.proofs.lemmas.Fmt.{decimal_is_IsNumeral, decimal_digit, first_decimal, decimal-digits_value, IsAscii-decimal}
use Rattle.std.proofs.lemmas.Str.{IsUtf8-from_ascii}
use Rattle.std.proofs.lemmas.Str.Parse.{IsNumeralModel, IsDigitsTest, numerals_by_value}
use Rattle.std.proofs.lemmas.Bool.Decides.{nat_tests}

digits_test : IsDigitsTest (AllDigits 10)
digits_test = search rules

own : IsNumeralModel (AllDigits 10) (digits_value 10)
own = numerals_by_value (AllDigits 10) digits_test

pub decimal_utf8 : (n : ℕ) → n < 2 ^ 64 → IsUtf8 (decimal n)
decimal_utf8 n fits = IsUtf8-from_ascii (decimal n) (IsAscii-decimal n fits)

-- no number's text is empty, begins with a plus sign, or with a zero that more follows
pub decimal_some : (n : ℕ) → n < 2 ^ 64 → 0 < length (decimal n)
decimal_some n fits = (decimal_is_IsNumeral n fits).0.0

pub decimal_first : (n : ℕ) → n < 2 ^ 64 → 48 ≤ get_or (decimal n) 0 0
decimal_first zero fits = let e = decimal_digit 0 (omega arith) in rw e (omega arith)
decimal_first (suc n) fits = let h = first_decimal (suc n) (omega arith) fits in omega arith

pub decimal_padded : (n : ℕ) → n < 2 ^ 64 → get_or (decimal n) 0 0 ≡ 48 → 1 < length (decimal n) → ⊥
decimal_padded zero fits e more = let d : length (decimal 0) ≡ 1 = ap length (decimal_digit 0 (omega arith)) in omega arith
decimal_padded (suc n) fits e more = let h = first_decimal (suc n) (omega arith) fits in omega arith

-- a text that parses, with no sign and no zero in front, is that number's
pub parsed_decimal : (text : List ℕ) (n : ℕ) → IsNumeral 10 (without_leading_plus text) → digits_value 10 (without_leading_plus text) < 2 ^ 64
    → n ≡ digits_value 10 (without_leading_plus text) → get_or text 0 0 ≢ 43 → (get_or text 0 0 ≡ 48 → length text ≤ 1) → text ≡ decimal n
parsed_decimal text n numeral fits is unsigned plain =
    let whole : without_leading_plus text ≡ text = grind (arith, nat_tests) in
    let digits : IsNumeral 10 text = subst (IsNumeral 10) whole numeral in
    let small : digits_value 10 text < 2 ^ 64 = subst (λ (t : List ℕ). digits_value 10 t < 2 ^ 64) whole fits in
    let same : n ≡ digits_value 10 text = is ∙ ap (digits_value 10) whole in
    sym (decimal-digits_value own text digits.1 digits.0 (λ z. let p = plain z in omega (arith, p, digits.0)) small) ∙ ap decimal (sym same)
