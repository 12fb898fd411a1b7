-- Whether bytes are a value of a Jute type can be decided: of numbers there are only so many.
use Rattle.std.proofs.Common.{◌≡◌, ◌<◌, ◌^◌, ◌⊎◌, ℕ, ℤ, pos, negsuc, Bool, true, false, List, [], ◌∷◌, length, Option, Some, None, inl, inr, refl, sym, subst, arith, w64}
use Rattle.std.specs.Int.RustNames.{FitsSigned}
use Rattle.std.specs.Str.{IsUtf8, is_utf8}
use Rattle.std.proofs.Math.Decide.{dec_lt}
use Rattle.std.proofs.lemmas.Int.{ints}
use Rattle.std.proofs.lemmas.Str.{IsUtf8-from_is_utf8, is_utf8-from_IsUtf8}
use Rattle.path_seal.proofs.Decided.{dec_both, dec_either, dec_below}
use Rattle.jute_core.specs.Jute.{Jute, Value, int, long, boolean, buffer, ustring, count, pair, vector, int_bytes, long_bytes, IsInt, IsLength, IsSized, Each, Spells}
use Rattle.world_core.proofs.Deciding.{dec_from, dec_same, dec_parts, Values, dec_values}

-- ---- numbers

-- a number from 0 on, or one below 0, of those that fit
abbrev Signed : ℕ → (ℤ → List ℕ) → List ℕ → Type 0
Signed bound f b = ((n : ℕ) × (n < bound) × (b ≡ f (pos n))) ⊎ ((n : ℕ) × (n < bound) × (b ≡ f (negsuc n)))

dec_signed : (bound : ℕ) (f : ℤ → List ℕ) (b : List ℕ) → Dec (Signed bound f b)
dec_signed bound f b =
    dec_either (dec_below (λ n. b ≡ f (pos n)) (λ n. dec_same b (f (pos n))) bound)
    (dec_below (λ n. b ≡ f (negsuc n)) (λ n. dec_same b (f (negsuc n))) bound)

int_of : (b : List ℕ) → Signed (2 ^ 31) int_bytes b → (z : ℤ) × IsInt z b
int_of b (inl h) = (pos h.0, (omega (arith, ints, h.1), h.2))
int_of b (inr h) = (negsuc h.0, (omega (arith, ints, h.1), h.2))

of_int : (b : List ℕ) (z : ℤ) → IsInt z b → Signed (2 ^ 31) int_bytes b
of_int b (pos n) h = let fits = h.0 in inl (n, omega (arith, ints, fits), h.1)
of_int b (negsuc n) h = let fits = h.0 in inr (n, omega (arith, ints, fits), h.1)

abbrev IsLong : ℤ → List ℕ → Type 0
IsLong z b = FitsSigned w64 z × (b ≡ long_bytes z)

long_of : (b : List ℕ) → Signed (2 ^ 63) long_bytes b → (z : ℤ) × IsLong z b
long_of b (inl h) = (pos h.0, (omega (arith, ints, h.1), h.2))
long_of b (inr h) = (negsuc h.0, (omega (arith, ints, h.1), h.2))

of_long : (b : List ℕ) (z : ℤ) → IsLong z b → Signed (2 ^ 63) long_bytes b
of_long b (pos n) h = let fits = h.0 in inl (n, omega (arith, ints, fits), h.1)
of_long b (negsuc n) h = let fits = h.0 in inr (n, omega (arith, ints, fits), h.1)

-- ---- bytes after their length

abbrev Lengthy : List ℕ → List ℕ → Type 0
Lengthy x y = IsLength (length y) x

dec_length : (n : ℕ) (b : List ℕ) → Dec (IsLength n b)
dec_length n b = dec_both (dec_lt n (2 ^ 31)) (dec_same b (int_bytes (pos n)))

dec_some_length : (b : List ℕ) → Dec ((n : ℕ) × IsLength n b)
dec_some_length b =
    dec_from (λ h. (h.0, (h.1, h.2))) (λ h. (h.0, h.1.0, h.1.1)) (dec_below (λ n. b ≡ int_bytes (pos n)) (λ n. dec_same b (int_bytes (pos n))) (2 ^ 31))

dec_sized : (b : List ℕ) → Dec ((bytes : List ℕ) × IsSized bytes b)
dec_sized b =
    dec_from (λ h. (h.back, (h.front, h.held, h.cut))) (λ h. record { front = h.1.0; back = h.0; held = h.1.1; cut = h.1.2 })
    (dec_parts Lengthy (λ x y. dec_length (length y) x) b)

dec_true : (r : Bool) → Dec (r ≡ true)
dec_true true = yes refl
dec_true false = no (λ e. cc)

dec_utf8 : (text : List ℕ) → Dec (IsUtf8 text)
dec_utf8 text = dec_from (IsUtf8-from_is_utf8 text) (is_utf8-from_IsUtf8 text) (dec_true (is_utf8 text))

abbrev IsText : List ℕ → List ℕ → Type 0
IsText x y = IsLength (length y) x × IsUtf8 y

dec_text : (b : List ℕ) → Dec ((text : List ℕ) × (IsSized text b × IsUtf8 text))
dec_text b =
    dec_from (λ h. (h.back, ((h.front, h.held.0, h.cut), h.held.1))) (λ h. record { front = h.1.0.0; back = h.0; held = (h.1.0.1, h.1.1); cut = h.1.0.2 })
    (dec_parts IsText (λ x y. dec_both (dec_length (length y) x) (dec_utf8 y)) b)

-- ---- values of all types

-- what a relation of an optional value says of none and of one
optional : {V : Type 0} (R : Option V → List ℕ → Type 0) (b : List ℕ) → Dec (R None b) → Dec ((v : V) × R (Some v) b) → Dec ((o : Option V) × R o b)
optional {V} R b (yes h) d = yes (None, h)
optional {V} R b (no f) (yes h) = yes (Some h.0, h.1)
optional {V} R b (no f) (no g) = no (λ h. neither h.0 h.1)
  where
    neither : (o : Option V) → R o b → ⊥
    neither None h = f h
    neither (Some v) h = g (v, h)

-- so many values behind their number
abbrev Counted : (t : Jute) → List ℕ → List ℕ → Type 0
Counted t x y = (n : ℕ) × (n < 2 ^ 31) × ((x ≡ int_bytes (pos n)) × Values (Spells t) n y)

counted_of : (t : Jute) (x y : List ℕ) (vs : List (Value t)) → IsLength (length vs) x → Each (Spells t) vs y → Counted t x y
counted_of t x y vs l h = (length vs, l.0, (l.1, record { list = vs; counted = refl; each = h }))

of_counted : (t : Jute) (x y : List ℕ) (h : Counted t x y) → IsLength (length h.2.1.list) x
of_counted t x y h = subst (λ (n : ℕ). IsLength n x) (sym h.2.1.counted) (h.1, h.2.0)

dec_counted : (t : Jute) → ((b : List ℕ) → Dec ((v : Value t) × Spells t v b)) → (x y : List ℕ) → Dec (Counted t x y)
dec_counted t d x y =
    dec_below (λ n. (x ≡ int_bytes (pos n)) × Values (Spells t) n y)
    (λ n. dec_both (dec_same x (int_bytes (pos n))) (dec_values (Spells t) d n y)) (2 ^ 31)

boolean_of : (b : List ℕ) → (b ≡ 0 ∷ []) ⊎ (b ≡ 1 ∷ []) → (v : Bool) × Spells boolean v b
unfolding Spells
boolean_of b (inl e) = (false, e)
boolean_of b (inr e) = (true, e)

of_boolean : (b : List ℕ) (v : Bool) → Spells boolean v b → (b ≡ 0 ∷ []) ⊎ (b ≡ 1 ∷ [])
unfolding Spells
of_boolean b false e = inl e
of_boolean b true e = inr e

abbrev Pair : Jute → Jute → List ℕ → List ℕ → Type 0
Pair s t x y = ((v : Value s) × Spells s v x) × ((w : Value t) × Spells t w y)

pub dec_spells : (t : Jute) (b : List ℕ) → Dec ((v : Value t) × Spells t v b)
unfolding Spells
dec_spells int b = dec_from (int_of b) (λ h. of_int b h.0 h.1) (dec_signed (2 ^ 31) int_bytes b)
dec_spells long b = dec_from (long_of b) (λ h. of_long b h.0 h.1) (dec_signed (2 ^ 63) long_bytes b)
dec_spells boolean b = dec_from (boolean_of b) (λ h. of_boolean b h.0 h.1) (dec_either (dec_same b (0 ∷ [])) (dec_same b (1 ∷ [])))
dec_spells buffer b = optional (Spells buffer) b (dec_same b (int_bytes (negsuc 0))) (dec_sized b)
dec_spells ustring b = dec_text b
dec_spells count b = optional (Spells count) b (dec_same b (int_bytes (negsuc 0))) (dec_some_length b)
dec_spells (pair s t) b =
    dec_from (λ h. ((h.held.0.0, h.held.1.0), (h.front, h.back, h.held.0.1, h.held.1.1, h.cut)))
    (λ h. record { front = h.1.0; back = h.1.1; held = ((h.0.0, h.1.2), (h.0.1, h.1.3)); cut = h.1.4 })
    (dec_parts (Pair s t) (λ x y. dec_both (dec_spells s x) (dec_spells t y)) b)
dec_spells (vector t) b =
    optional (Spells (vector t)) b (dec_same b (int_bytes (negsuc 0)))
    (dec_from (λ h. (h.held.2.1.list, (h.front, h.back, of_counted t h.front h.back h.held, h.held.2.1.each, h.cut)))
    (λ h. record { front = h.1.0; back = h.1.1; held = counted_of t h.1.0 h.1.1 h.0 h.1.2 h.1.3; cut = h.1.4 })
    (dec_parts (Counted t) (dec_counted t (dec_spells t)) b))
