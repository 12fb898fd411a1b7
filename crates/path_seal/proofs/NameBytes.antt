-- A sealed name is hex of bytes, as long as it must be, and has no slash.
use Rattle.std.proofs.Common.{◌≡◌, ◌≢◌, ℕ, zero, suc, ◌+◌, ◌*◌, ◌/◌, ◌%◌, ◌^◌, ◌<◌, ◌≤◌, Bool, true, false, cond, not, eqb, ◌&&◌, List, [], ◌∷◌, ◌++◌, length, get_or, refl, sym, subst, arith, length-append}
use Rattle.std.specs.Prelude.{All, Ok}
use Rattle.std.specs.Int.{w32, byte_at, bytes_high_first, to_be_bytes}
use Rattle.std.specs.Str.{IsUtf8}
use Rattle.std.proofs.lemmas.Bool.{and_parts, eqb-false}
use Rattle.std.proofs.lemmas.List.{length-take-le}
use Rattle.std.proofs.lemmas.List.Elements.{All-nil, All-cons}
use lib.Utf8.{scalar, scalars, next, encode, encodes, scalar_cases}
use lib.Dec.{T, ltb, ltb→lt}
use mathlib.Core.Logic.{⊎_elim}
use Rattle.hex.specs.Hex.{lower_digits, encode_with, decode_of}
use Rattle.hex.proofs.HexLemmas.{length-encode_with, decode_of-encode_lower}
use Rattle.sha2.specs.Sha256.{digest_bytes, sha256}
use Rattle.sha2.proofs.Facts256.{length-sha256}
use Rattle.aes_block.specs.Laws.{IsBytes}
use Rattle.aes_block.proofs.Fits.{bytes_none, bytes_cons, bytes_append, bytes_take}
use Rattle.gcm_mode.specs.Gcm.{text_under, gcm_tag}
use Rattle.gcm_mode.proofs.Counting.{length-text_under, length-gcm_tag}
use Rattle.gcm_mode.proofs.Fits.{seals_to_bytes}
use Rattle.zk_path.specs.Paths.{HasNoSlash, joined, text_of}
use Rattle.path_seal.specs.Sealed.{Keys, name_iv, sealed_bytes, SealName, sealed}

-- ---- a text's items are bytes

next-lt : (b : ℕ) → next b < 256
next-lt b = omega arith

one : (x : ℕ) → x < 256 → IsBytes (x ∷ [])
one x h = bytes_cons x [] h bytes_none

pick : (b : Bool) (x y : List ℕ) → (T b → IsBytes x) → IsBytes y → IsBytes (cond b x y)
pick true x y h k = h tt
pick false x y h k = k

bytes_two : (a c : ℕ) → a < 256 → IsBytes (a ∷ next c ∷ [])
bytes_two a c h = bytes_cons a (next c ∷ []) h (one (next c) (next-lt c))

bytes_three : (a b c : ℕ) → a < 256 → IsBytes (a ∷ next b ∷ next c ∷ [])
bytes_three a b c h = bytes_cons a (next b ∷ next c ∷ []) h (bytes_two (next b) c (next-lt b))

bytes_encode : (c : ℕ) → c < 1114112 → IsBytes (encode c)
unfolding encode
bytes_encode c low =
    pick (ltb c 128) _ _ (λ t. let h = ltb→lt c 128 t in one c (omega arith))
    (pick (ltb c 2048) _ _ (λ t. let h = ltb→lt c 2048 t in bytes_two (192 + c / 64) c (omega arith))
    (pick (ltb c 65536) _ _ (λ t. let h = ltb→lt c 65536 t in bytes_three (224 + c / 4096) (c / 64) c (omega arith))
    (bytes_cons (240 + c / 262144) (next (c / 4096) ∷ next (c / 64) ∷ next c ∷ []) (omega arith) (bytes_three (next (c / 4096)) (c / 64) c (next-lt (c / 4096))))))

bytes_encodes : (cs : List ℕ) → scalars cs ≡ true → IsBytes (encodes cs)
bytes_encodes [] h = bytes_none
bytes_encodes (c ∷ cs) h =
    let parts = and_parts (scalar c) (scalars cs) h in
    let low : c < 1114112 = ⊎_elim (λ k. omega arith) (λ k. k.1) (scalar_cases c parts.0) in
    bytes_append (encode c) (encodes cs) (bytes_encode c low) (bytes_encodes cs parts.1)

pub bytes_utf8 : (n : List ℕ) → IsUtf8 n → IsBytes n
bytes_utf8 n u = subst IsBytes u.1.1 (bytes_encodes u.0 u.1.0)

-- ---- a hash's are too

mod-lt : (n : ℕ) → n % 256 < 256
mod-lt n = omega arith

byte_at-lt : (i n : ℕ) → byte_at i n < 256
byte_at-lt zero n = mod-lt n
byte_at-lt (suc i) n = mod-lt (n / 256 ^ suc i)

bytes_of_number : (k n : ℕ) → IsBytes (bytes_high_first k n)
bytes_of_number zero n = bytes_none
bytes_of_number (suc k) n = bytes_cons (byte_at k n) (bytes_high_first k n) (byte_at-lt k n) (bytes_of_number k n)

bytes_digest : (h : List ℕ) (n : ℕ) → IsBytes (digest_bytes h n)
unfolding digest_bytes
bytes_digest h zero = bytes_none
bytes_digest h (suc n) = bytes_append (digest_bytes h n) (to_be_bytes w32 (get_or h n 0)) (bytes_digest h n) (bytes_of_number 4 (get_or h n 0))

bytes_sha256 : (m : List ℕ) → IsBytes (sha256 m)
unfolding sha256
bytes_sha256 m = bytes_digest _ 8

-- ---- the bytes of a name

pub length-name_iv : (k : Keys) (p : List (List ℕ)) (n : List ℕ) → length (name_iv k p n) ≡ 12
unfolding name_iv
length-name_iv k p n = length-take-le 12 (sha256 (k.salt ++ joined (n ∷ p))) (omega (arith, length-sha256 (k.salt ++ joined (n ∷ p))))

bytes_name_iv : (k : Keys) (p : List (List ℕ)) (n : List ℕ) → IsBytes (name_iv k p n)
unfolding name_iv
bytes_name_iv k p n = bytes_take 12 (sha256 (k.salt ++ joined (n ∷ p))) (bytes_sha256 (k.salt ++ joined (n ∷ p)))

pub bytes_sealed : (k : Keys) (p : List (List ℕ)) (n : List ℕ) → IsBytes k.key → IsBytes n → IsBytes (sealed_bytes k p n)
unfolding sealed_bytes
bytes_sealed k p n h g =
    let iv : List ℕ = name_iv k p n in
    let text : List ℕ = text_under k.key iv n in
    bytes_append iv (text ++ gcm_tag k.key iv (text_of p) text) (bytes_name_iv k p n)
    (bytes_append text (gcm_tag k.key iv (text_of p) text) (seals_to_bytes.0 k.key iv n h g) (seals_to_bytes.1 k.key iv (text_of p) text h))

pub length-sealed_bytes : (k : Keys) (p : List (List ℕ)) (n : List ℕ) → length (sealed_bytes k p n) ≡ length n + 28
unfolding sealed_bytes
length-sealed_bytes k p n =
    let iv : List ℕ = name_iv k p n in
    let text : List ℕ = text_under k.key iv n in
    omega (arith, length-append iv (text ++ gcm_tag k.key iv (text_of p) text), length-append text (gcm_tag k.key iv (text_of p) text), length-name_iv k p n, length-text_under k.key iv n, length-gcm_tag k.key iv (text_of p) text)

pub length-SealName : (k : Keys) (p : List (List ℕ)) (n : List ℕ) → length (SealName k p n) ≡ 2 * length n + 56
unfolding SealName
length-SealName k p n = omega (arith, length-encode_with lower_digits (sealed_bytes k p n), length-sealed_bytes k p n)

pub decoded : (k : Keys) (p : List (List ℕ)) (n : List ℕ) → IsBytes k.key → IsUtf8 n → decode_of (SealName k p n) ≡ Ok (sealed_bytes k p n)
unfolding SealName
decoded k p n h u = decode_of-encode_lower (sealed_bytes k p n) (bytes_sealed k p n h (bytes_utf8 n u))

-- ---- hex has no slash

abbrev has_no_47 : List ℕ → Bool
has_no_47 [] = true
has_no_47 (x ∷ xs) = not (eqb x 47) && has_no_47 xs

is_not : (b : Bool) → not b ≡ true → b ≡ false
is_not true h = sym h
is_not false h = refl

item_not_47 : (xs : List ℕ) → has_no_47 xs ≡ true → (i : ℕ) → get_or xs i 0 ≢ 47
item_not_47 [] h i e = omega arith
item_not_47 (x ∷ xs) h zero e = eqb-false x 47 (is_not (eqb x 47) (and_parts (not (eqb x 47)) (has_no_47 xs) h).0) e
item_not_47 (x ∷ xs) h (suc i) e = item_not_47 xs (and_parts (not (eqb x 47)) (has_no_47 xs) h).1 i e

hex_plain : (xs : List ℕ) → HasNoSlash (encode_with lower_digits xs)
unfolding encode_with
hex_plain [] = All-nil (λ b. b ≢ 47)
hex_plain (x ∷ xs) =
    All-cons (λ b. b ≢ 47) (get_or lower_digits (x / 16) 0) (get_or lower_digits (x % 16) 0 ∷ encode_with lower_digits xs) (item_not_47 lower_digits refl (x / 16))
    (All-cons (λ b. b ≢ 47) (get_or lower_digits (x % 16) 0) (encode_with lower_digits xs) (item_not_47 lower_digits refl (x % 16)) (hex_plain xs))

pub name_plain : (k : Keys) (p : List (List ℕ)) (n : List ℕ) → HasNoSlash (SealName k p n)
unfolding SealName
name_plain k p n = hex_plain (sealed_bytes k p n)

pub sealed_plain : (k : Keys) (p : List (List ℕ)) → All HasNoSlash (sealed k p)
unfolding sealed
sealed_plain k [] = All-nil HasNoSlash
sealed_plain k (n ∷ p) = All-cons HasNoSlash (SealName k p n) (sealed k p) (name_plain k p n) (sealed_plain k p)

-- a path is shorter than its sealed form
pub joined_shorter : (k : Keys) (p : List (List ℕ)) → length (joined p) ≤ length (joined (sealed k p))
unfolding joined sealed
joined_shorter k [] = omega arith
joined_shorter k (n ∷ p) =
    omega (arith, joined_shorter k p, length-append (joined p) (47 ∷ n), length-append (joined (sealed k p)) (47 ∷ SealName k p n), length-SealName k p n)
