-- A text of hex digits, none of them in upper case, is the lower-case text of what it decodes to.
use Rattle.std.proofs.Common.{◌≡◌, ◌≤◌, ◌<◌, ◌+◌, ◌*◌, ◌/◌, ◌%◌, ℕ, zero, suc, Bool, true, false, ltb, ◌⊎◌, inl, inr, ◌&&◌, ◌||◌, List, [], ◌∷◌, length, get_or, slice_index, Option, Some, None, Result, Ok, Err, refl, sym, ap, subst, ◌∙◌, arith}
use Rattle.std.specs.Prelude.{All, Any, MatchResult, OnOk, is_ok, is_err}
use Rattle.std.specs.Str.{IsUtf8}
use Rattle.std.proofs.lemmas.Str.{IsUtf8-from_ascii}
use Rattle.std.specs.Result.{result_unwrap_or}
use Rattle.std.proofs.lemmas.Bool.{and_parts, cases_lt}
use Rattle.std.proofs.lemmas.List.{get_or_default}
use Rattle.std.proofs.lemmas.List.Elements.{All-nil, All-cons, All-head, All-tail}
use Rattle.hex.specs.Hex.{encode_lower, encode_with, lower_digits, decode_of, decode_pairs, decode_sized, hex_digit_value, value_at, pair_value, digit_or_error, ◌>>=◌}
use Rattle.hex.specs.declared.error.FromHexError.{FromHexError}
use Rattle.hex.proofs.HexLemmas.{IsDigits-lower_digits, IsAscii-encode_with, length-encode_with, decode_sized-twice, decode_sized-ok, decode_of-encode_lower, decode_of-same, decode_sized-encode_lower}
use Rattle.aes_block.specs.Laws.{IsBytes}
use Rattle.path_seal.specs.Names.{IsUpper}

abbrev pub IsNotUpper : ℕ → Type 0
IsNotUpper c = IsUpper c → ⊥

pub none_upper : (text : List ℕ) → (Any IsUpper text → ⊥) → All IsNotUpper text
none_upper text h = λ i d l u. h (i, get_or text i d, l, get_or_default text i (get_or text i d) d l, u)

-- ---- the sixteen digits

abbrev no_upper : List ℕ → Bool
no_upper [] = true
no_upper (x ∷ xs) = (ltb x 65 || ltb 70 x) && no_upper xs

outside : (x : ℕ) → (ltb x 65 || ltb 70 x) ≡ true → IsNotUpper x
outside x h u = grind (arith)

item_lower : (xs : List ℕ) → no_upper xs ≡ true → (i : ℕ) → IsNotUpper (get_or xs i 0)
item_lower [] h i u = omega (arith, u.0)
item_lower (x ∷ xs) h zero u = outside x (and_parts (ltb x 65 || ltb 70 x) (no_upper xs) h).0 u
item_lower (x ∷ xs) h (suc i) u = item_lower xs (and_parts (ltb x 65 || ltb 70 x) (no_upper xs) h).1 i u

digit_lower : (i : ℕ) → IsNotUpper (slice_index lower_digits i)
digit_lower i = item_lower lower_digits refl i

-- no digit of a text in lower case is in upper case
text_lower : (xs : List ℕ) → All IsNotUpper (encode_with lower_digits xs)
unfolding encode_with
text_lower [] = All-nil IsNotUpper
text_lower (x ∷ xs) =
    All-cons IsNotUpper (slice_index lower_digits (x / 16)) (slice_index lower_digits (x % 16) ∷ encode_with lower_digits xs) (digit_lower (x / 16))
    (All-cons IsNotUpper (slice_index lower_digits (x % 16)) (encode_with lower_digits xs) (digit_lower (x % 16)) (text_lower xs))

lower_at : (text : List ℕ) → All IsNotUpper text → Any IsUpper text → ⊥
lower_at text h u = h u.0 u.1 u.2 (subst IsUpper (sym u.3) u.4)

pub upper_spells_none : (b text : List ℕ) → Any IsUpper text → encode_lower b ≡ text → ⊥
upper_spells_none b text u e = lower_at text (subst (All IsNotUpper) e (text_lower b)) u

-- and each is one byte of UTF-8
abbrev all_ascii : List ℕ → Bool
all_ascii [] = true
all_ascii (x ∷ xs) = ltb x 128 && all_ascii xs

item_ascii : (xs : List ℕ) → all_ascii xs ≡ true → (i : ℕ) → get_or xs i 0 < 128
item_ascii [] h i = omega arith
item_ascii (x ∷ xs) h zero = let low = (and_parts (ltb x 128) (all_ascii xs) h).0 in grind (arith)
item_ascii (x ∷ xs) h (suc i) = item_ascii xs (and_parts (ltb x 128) (all_ascii xs) h).1 i

pub lower_utf8 : (xs : List ℕ) → IsUtf8 (encode_lower xs)
lower_utf8 xs = IsUtf8-from_ascii (encode_lower xs) (IsAscii-encode_with lower_digits xs (item_ascii lower_digits refl))

-- ---- digits of one value

below : (c v : ℕ) → c < 65 → hex_digit_value c ≡ Some v → c ≡ v + 48
below c v l h = grind (arith)

below_small : (c v : ℕ) → c < 65 → hex_digit_value c ≡ Some v → v < 10
below_small c v l h = grind (arith)

above : (c v : ℕ) → 70 < c → hex_digit_value c ≡ Some v → c ≡ v + 87
above c v l h = grind (arith)

above_great : (c v : ℕ) → 70 < c → hex_digit_value c ≡ Some v → 10 ≤ v
above_great c v l h = grind (arith)

on_a_side : (c : ℕ) → IsNotUpper c → (c < 65) ⊎ (70 < c)
on_a_side c h = of (cases_lt c 65) (cases_lt 70 c)
  where
    of : (c < 65) ⊎ (65 ≤ c) → (70 < c) ⊎ (c ≤ 70) → (c < 65) ⊎ (70 < c)
    of (inl l) g = inl l
    of (inr l) (inl g) = inr g
    of (inr l) (inr g) = absurd (h (l, g))

same_digit : (c d v : ℕ) → hex_digit_value c ≡ Some v → hex_digit_value d ≡ Some v → IsNotUpper c → IsNotUpper d → c ≡ d
same_digit c d v h g p q = of (on_a_side c p) (on_a_side d q)
  where
    of : (c < 65) ⊎ (70 < c) → (d < 65) ⊎ (70 < d) → c ≡ d
    of (inl l) (inl m) = omega (arith, below c v l h, below d v m g)
    of (inl l) (inr m) = absurd (omega (arith, below_small c v l h, above_great d v m g))
    of (inr l) (inl m) = absurd (omega (arith, above_great c v l h, below_small d v m g))
    of (inr l) (inr m) = omega (arith, above c v l h, above d v m g)

small : (c v : ℕ) → hex_digit_value c ≡ Some v → v < 16
small c v h = grind (arith)

digit_read : (c i : ℕ) (o : Option ℕ) (v : ℕ) → digit_or_error c i o ≡ Ok v → o ≡ Some v
digit_read c i (Some w) v h = ap Some (ap (λ (r : Result ℕ FromHexError). result_unwrap_or r 0) h)
digit_read c i None v h = cc h

bind_ok : {A B : Type 0} (r : Result A FromHexError) (f : A → Result B FromHexError) (y : B) → (r >>= f) ≡ Ok y → (x : A) × (r ≡ Ok x) × (f x ≡ Ok y)
bind_ok (Ok x) f y h = (x, refl, h)
bind_ok (Err e) f y h = cc h

-- the digit of a value is the one that was read
back : (c v : ℕ) → hex_digit_value c ≡ Some v → IsNotUpper c → slice_index lower_digits v ≡ c
back c v h p = same_digit (slice_index lower_digits v) c v (IsDigits-lower_digits v (small c v h)) h (digit_lower v) p

front_digit : (x y : ℕ) → y < 16 → (x * 16 + y) / 16 ≡ x
front_digit x y h = omega arith

back_digit : (x y : ℕ) → y < 16 → (x * 16 + y) % 16 ≡ y
back_digit x y h = omega arith

pairs_back : (i : ℕ) (text bytes : List ℕ) → All IsNotUpper text → decode_pairs i text ≡ Ok bytes → encode_lower bytes ≡ text
unfolding decode_pairs encode_with
pairs_back i [] bytes h e = let none : [] ≡ bytes = ap (λ (r : Result (List ℕ) FromHexError). result_unwrap_or r []) e in ap encode_lower (sym none)
pairs_back i (a ∷ []) bytes h e = cc e
pairs_back i (a ∷ b ∷ rest) bytes h e =
    let p0 = bind_ok (pair_value a b i) _ bytes e in
    let p1 = bind_ok (value_at a i) _ p0.0 p0.1 in
    let p2 = bind_ok (value_at b (i + 1)) _ p0.0 p1.2 in
    let p3 = bind_ok (decode_pairs (i + 2) rest) _ bytes p0.2 in
    let whole : p0.0 ∷ p3.0 ≡ bytes = ap (λ (r : Result (List ℕ) FromHexError). result_unwrap_or r []) p3.2 in
    let byte : p1.0 * 16 + p2.0 ≡ p0.0 = ap (λ (r : Result ℕ FromHexError). result_unwrap_or r 0) p2.2 in
    let one = digit_read a i (hex_digit_value a) p1.0 p1.1 in
    let two = digit_read b (i + 1) (hex_digit_value b) p2.0 p2.1 in
    let tail = All-tail IsNotUpper a (b ∷ rest) h in
    let low = small b p2.0 two in
    let first : slice_index lower_digits (p0.0 / 16) ≡ a =
    ap (λ (n : ℕ). slice_index lower_digits (n / 16)) (sym byte) ∙ ap (slice_index lower_digits) (front_digit p1.0 p2.0 low) ∙ back a p1.0 one (All-head IsNotUpper a (b ∷ rest) h) in
    let second : slice_index lower_digits (p0.0 % 16) ≡ b =
    ap (λ (n : ℕ). slice_index lower_digits (n % 16)) (sym byte) ∙ ap (slice_index lower_digits) (back_digit p1.0 p2.0 low) ∙ back b p2.0 two (All-head IsNotUpper b rest tail) in
    let ih = pairs_back (i + 2) rest p3.0 (All-tail IsNotUpper b rest tail) p3.1 in
    ap encode_lower (sym whole) ∙ (λ k. first k ∷ second k ∷ ih k)

-- ---- results of hex

pub when_ok : {E : Type 0} (r : Result Unit E) (P : Type 0) → OnOk r P → is_err r ≡ false → P
when_ok {E} (Ok x) P h n = h
when_ok {E} (Err e) P h n = cc n

pub decoded : (d : Result (List ℕ) FromHexError) (r : Result Unit FromHexError) (out : List ℕ) → MatchResult d (λ bytes. (r ≡ Ok tt) × (out ≡ bytes)) (λ e. r ≡ Err e) → is_ok r ≡ true → d ≡ Ok out
decoded (Ok bytes) r out h ok = ap Ok (sym h.1)
decoded (Err e) r out h ok = let wrong : is_ok r ≡ false = ap is_ok h in cc

pub refused : (d : Result (List ℕ) FromHexError) (r : Result Unit FromHexError) (out : List ℕ) → MatchResult d (λ bytes. (r ≡ Ok tt) × (out ≡ bytes)) (λ e. r ≡ Err e) → is_ok r ≡ false → (e : FromHexError) × (d ≡ Err e)
refused (Ok bytes) r out h other = let right : is_ok r ≡ true = ap is_ok h.0 in cc
refused (Err e) r out h other = (e, refl)

-- ---- what decoding into room for half as many bytes says of a text

sized_pairs : (text bytes : List ℕ) (n : ℕ) → decode_sized text n ≡ Ok bytes → decode_of text ≡ Ok bytes
sized_pairs text bytes n e = sym (decode_sized-twice text n (decode_sized-ok text n bytes e)) ∙ e

pub spells_back : (text bytes : List ℕ) (n : ℕ) → (Any IsUpper text → ⊥) → decode_sized text n ≡ Ok bytes → encode_lower bytes ≡ text
spells_back text bytes n h e = pairs_back 0 text bytes (none_upper text h) (even ∙ sized_pairs text bytes n e)
  where
    even : decode_pairs 0 text ≡ decode_of text
    even = let size = decode_sized-ok text n bytes e in grind (arith)

pub spells_one : (text bytes b : List ℕ) (n : ℕ) → decode_sized text n ≡ Ok bytes → IsBytes b → encode_lower b ≡ text → bytes ≡ b
spells_one text bytes b n e h is = decode_of-same text bytes b (sized_pairs text bytes n e) (ap decode_of (sym is) ∙ decode_of-encode_lower b h)

pub spells_none : (text b : List ℕ) (n : ℕ) (fault : FromHexError) → n ≡ length text / 2 → decode_sized text n ≡ Err fault → IsBytes b → encode_lower b ≡ text → ⊥
spells_none text b n fault half e h is =
    let size = length-encode_with lower_digits b in
    let n_is : length b ≡ n = omega (arith, half, size, ap length is) in
    let ok : decode_sized text n ≡ Ok b = ap (λ (t : List ℕ). decode_sized t n) (sym is) ∙ decode_sized-encode_lower b n n_is h in
    cc
