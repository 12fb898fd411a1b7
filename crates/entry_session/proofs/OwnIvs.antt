-- IVs of two payloads of a boot are apart.
use Rattle.std.proofs.Common.{◌≡◌, ℕ, ◌<◌, ◌^◌, List, ◌∷◌, drop, refl, sym, ap, ◌∙◌, arith}
use Rattle.std.specs.Int.{w32, to_be_bytes, from_be_bytes}
use Rattle.std.proofs.lemmas.Nat.{from_be_bytes-to_be_bytes_4}
use Rattle.jute_core.proofs.OneSpelling.{fronts_apart}
use Rattle.payload_seal.specs.Ivs.{payload_iv}
use Rattle.entry_session.specs.Laws.{HaveOwnIvs}
use Rattle.entry_session.proofs.HandedUp.{handed}

one_number : (i j : ℕ) → i < 2 ^ 32 → j < 2 ^ 32 → to_be_bytes w32 i ≡ to_be_bytes w32 j → i ≡ j
one_number i j l m e = sym (from_be_bytes-to_be_bytes_4 i l) ∙ ap (from_be_bytes w32) e ∙ from_be_bytes-to_be_bytes_4 j m

behind_first : (e : ℕ) (xs ys : List ℕ) → e ∷ xs ≡ e ∷ ys → xs ≡ ys
behind_first e xs ys h = ap (drop 1) h

one_iv : (e boot c d i j : ℕ) → c < 2 ^ 32 → d < 2 ^ 32 → i < 2 ^ 32 → j < 2 ^ 32 → payload_iv e boot c i ≡ payload_iv e boot d j → (c ≡ d) × (i ≡ j)
one_iv e boot c d i j lc ld li lj h =
    let back = (fronts_apart (drop 1 (to_be_bytes w32 boot)) (drop 1 (to_be_bytes w32 boot)) _ _ refl (behind_first e _ _ h)).1 in
    let both = fronts_apart (to_be_bytes w32 c) (to_be_bytes w32 d) (to_be_bytes w32 i) (to_be_bytes w32 j) refl back in
    (one_number c d lc ld both.0, one_number i j li lj both.1)

pub own_ivs : HaveOwnIvs
own_ivs k boot hs stand ran c d i j lc ld li lj h =
    let x = (handed k boot c (hs c) (stand c) (ran c)).within in
    let y = (handed k boot d (hs d) (stand d) (ran d)).within in
    one_iv _ boot c d i j lc ld (omega (arith, li, x)) (omega (arith, lj, y)) h
