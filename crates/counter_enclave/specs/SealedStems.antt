-- A sealed name is legal, and what an enclave gives is the name of its stem. These lemmas stand among the definitions because the laws of an impl cite them.
use Rattle.std.proofs.Common.{◌≡◌, ◌≢◌, ℕ, zero, suc, ◌/◌, ◌%◌, ◌<◌, Bool, true, ◌&&◌, List, [], ◌∷◌, ◌++◌, length, get_or, refl, sym, ap, subst, ◌∙◌, arith, length-append, inl, inr}
use lib.Dec.{T, ltb, ltb→lt}
use Rattle.std.specs.Prelude.{All}
use Rattle.std.specs.Int.{IsInRange}
use Rattle.std.specs.Str.{IsAscii, IsUtf8, chars}
use Rattle.std.proofs.lemmas.Bool.{and_parts}
use Rattle.std.proofs.lemmas.List.Elements.{All-nil, All-cons, All-head, All-tail, All-weaker, All-same}
use Rattle.std.proofs.lemmas.Str.{IsUtf8-from_ascii, chars-IsAscii}
use Rattle.hex.specs.Hex.{lower_digits, encode_with}
use Rattle.aes_block.specs.Laws.{IsBytes}
use Rattle.zk_path.specs.Paths.{IsForbidden, IsComponent, IsStem, joined, text_of}
use Rattle.zk_path.specs.Numbers.{ten_digits, numbered, IsNumberingOf}
use Rattle.zk_path.specs.WithDigits.{numbered_is_component, length-ten_digits}
use Rattle.zk_path.proofs.Components.{joined_same}
use Rattle.zk_path.proofs.Judged.{stem_plain}
use Rattle.path_seal.specs.Sealed.{Keys, AreKeys, sealed_bytes, SealName, sealed, SealPath, SealStem}
use Rattle.path_seal.proofs.NameBytes.{bytes_utf8, bytes_sealed, length-SealName, sealed_plain}
use Rattle.path_seal.proofs.Apart.{stems_are_apart}
use Rattle.counter_enclave.specs.Enclave.{IsSealedName}

-- ---- a sealed name is a legal component

-- from the digit 0 to the letter f
abbrev IsPlainByte : ℕ → Type 0
IsPlainByte b = IsInRange 48 102 b

abbrev are_plain : List ℕ → Bool
are_plain [] = true
are_plain (x ∷ xs) = (ltb 47 x && ltb x 103) && are_plain xs

plain_byte : (x : ℕ) → ltb 47 x && ltb x 103 ≡ true → IsPlainByte x
plain_byte x h =
    let parts = and_parts (ltb 47 x) (ltb x 103) h in
    let low = ltb→lt 47 x (subst T (sym parts.0) tt) in
    let high = ltb→lt x 103 (subst T (sym parts.1) tt) in
    (omega arith, omega arith)

plain_item : (xs : List ℕ) → are_plain xs ≡ true → (i : ℕ) → i < length xs → IsPlainByte (get_or xs i 0)
plain_item [] h i lt = absurd (omega arith)
plain_item (x ∷ xs) h zero lt = plain_byte x (and_parts (ltb 47 x && ltb x 103) (are_plain xs) h).0
plain_item (x ∷ xs) h (suc i) lt = plain_item xs (and_parts (ltb 47 x && ltb x 103) (are_plain xs) h).1 i (omega arith)

digit_plain : (i : ℕ) → i < 16 → IsPlainByte (get_or lower_digits i 0)
digit_plain i lt = plain_item lower_digits refl i lt

hex_plain : (xs : List ℕ) → IsBytes xs → All IsPlainByte (encode_with lower_digits xs)
unfolding encode_with
hex_plain [] h = All-nil IsPlainByte
hex_plain (x ∷ xs) h =
    All-cons IsPlainByte (get_or lower_digits (x / 16) 0) (get_or lower_digits (x % 16) 0 ∷ encode_with lower_digits xs) (digit_plain (x / 16) (omega (arith, h 0)))
    (All-cons IsPlainByte (get_or lower_digits (x % 16) 0) (encode_with lower_digits xs) (digit_plain (x % 16) (omega arith)) (hex_plain xs (λ i. h (suc i))))

ascii : (xs : List ℕ) → All IsPlainByte xs → IsAscii xs
ascii [] h i = omega arith
ascii (x ∷ xs) h zero = let first = All-head IsPlainByte x xs h in omega arith
ascii (x ∷ xs) h (suc i) = ascii xs (All-tail IsPlainByte x xs h) i

allowed_byte : (b : ℕ) → IsPlainByte b → IsForbidden b → ⊥
allowed_byte b h (inl f) = omega arith
allowed_byte b h (inr (inl f)) = omega arith
allowed_byte b h (inr (inr (inl f))) = omega arith
allowed_byte b h (inr (inr (inr f))) = omega arith

plain_component : (xs : List ℕ) → All IsPlainByte xs → 2 < length xs → IsComponent xs
plain_component xs h long = record {
  utf8 = IsUtf8-from_ascii xs (ascii xs h);
  filled = λ e. omega (arith, ap length e);
  no_dot = λ e. omega (arith, ap length e);
  no_dots = λ e. omega (arith, ap length e);
  no_slash = All-weaker IsPlainByte (λ b. b ≢ 47) (λ b g e. omega arith) xs h;
  allowed = All-same (λ c. IsForbidden c → ⊥) (chars xs) xs (chars-IsAscii xs (ascii xs h)) (All-weaker IsPlainByte (λ c. IsForbidden c → ⊥) allowed_byte xs h);
}

pub sealed_is_component : (k : Keys) (p : List (List ℕ)) (n : List ℕ) → IsBytes k.key → IsUtf8 n → IsComponent (SealName k p n)
unfolding SealName
sealed_is_component k p n h u =
    plain_component (SealName k p n) (hex_plain (sealed_bytes k p n) (bytes_sealed k p n h (bytes_utf8 n u))) (omega (arith, length-SealName k p n))

-- ---- the laws

keeps_parts : (k : Keys) (s : List (List ℕ)) (i : ℕ) (stem text : List ℕ) → AreKeys k → IsStem s → stem ≡ SealStem k s → text ≡ SealPath k (numbered s i) → IsNumberingOf stem text
unfolding joined sealed text_of
keeps_parts k [] i stem text keys legal asked given = absurd legal
keeps_parts k (a ∷ q) i stem text keys legal asked given =
    let m : List ℕ = SealName k q (a ++ ten_digits i) in
    record {
      short = omega (
        arith,
        ap length asked,
        ap length given,
        length-append (joined (sealed k q)) (47 ∷ SealName k q a),
        length-append (joined (sealed k q)) (47 ∷ m),
        length-SealName k q a,
        length-SealName k q (a ++ ten_digits i),
        length-append a (ten_digits i),
        length-ten_digits i,
      );
      legal = λ n p s e.
          let same : n ∷ p ≡ SealName k q a ∷ sealed k q = joined_same (n ∷ p) (sealed k (a ∷ q)) (stem_plain (n ∷ p) s) (sealed_plain k (a ∷ q)) (sym e ∙ asked) in
          let above : sealed k q ≡ p = cc in (
            m,
            All-cons IsComponent m p (sealed_is_component k q (a ++ ten_digits i) keys.key_bytes (numbered_is_component a i legal.0).utf8) s.1,
            given ∙ ap (λ (l : List (List ℕ)). joined l ++ 47 ∷ m) above,
          );
    }

pub sealed_name_keeps : (k : Keys) (stem : List ℕ) (number : ℕ) (text : List ℕ) → IsSealedName k stem number text → IsNumberingOf stem text
sealed_name_keeps k stem number text h = keeps_parts k h.parts number stem text h.whole h.legal h.asked h.given

pub one_sealed_name : (k : Keys) (stem : List ℕ) (number : ℕ) (text other : List ℕ) → IsSealedName k stem number text → IsSealedName k stem number other → text ≡ other
one_sealed_name k stem number text other h j =
    let same : h.parts ≡ j.parts = stems_are_apart k h.parts j.parts h.whole.key_bytes h.legal j.legal (sym h.asked ∙ j.asked) in
    h.given ∙ ap (λ (s : List (List ℕ)). SealPath k (numbered s number)) same ∙ sym j.given
