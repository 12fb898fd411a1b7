-- Digests in lines.
use Rattle.std.proofs.Common.{◌≡◌, ◌<◌, ℕ, List, [], ◌∷◌, Bool, true, ◌&&◌, refl, sym, subst}
use Rattle.std.proofs.Math.Dec.{ltb}
use Rattle.std.proofs.lemmas.Bool.{and_parts, ltb-true}
use Rattle.std.proofs.lemmas.Str.Ascii.{IsAscii-nil, IsAscii-cons}
use Rattle.std.specs.Str.{IsAscii}
use Rattle.hex.specs.Hex.{encode_lower, lower_digits}
use Rattle.hex.proofs.HexLemmas.{IsAscii-encode_with}

abbrev are_small : List ℕ → Bool
are_small [] = true
are_small (b ∷ bytes) = ltb b 128 && are_small bytes

small_are_ascii : (bytes : List ℕ) → are_small bytes ≡ true → IsAscii bytes
small_are_ascii [] small = IsAscii-nil
small_are_ascii (b ∷ bytes) small =
    let parts = and_parts (ltb b 128) (are_small bytes) small in
    IsAscii-cons b bytes (ltb-true b 128 parts.0) (small_are_ascii bytes parts.1)

-- a text in hex is ASCII
pub hex_is_ascii : (bytes text : List ℕ) → text ≡ encode_lower bytes → IsAscii text
hex_is_ascii bytes text is =
    subst (λ (t : List ℕ). IsAscii t) (sym is) (IsAscii-encode_with lower_digits bytes (small_are_ascii lower_digits refl))
