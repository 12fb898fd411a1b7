use Rattle.std.proofs.Common.{arith, inl, inr, ap, sym, ◌∙◌, length}
use Rattle.std.specs.Cmp.Lexicographic.{same_text, other_text}
use Rattle.hex.specs.Hex.{encode_lower}
use Rattle.hex.proofs.HexLemmas.{decode_of-ok}
use Rattle.replay_cli.proofs.EventLemmas.{unhexed, not_hex}
use Rattle.replay_cli.proofs.lines.hex_bytes.Goals as goal

pub returns-in_default : goal.returns-in_default
returns-in_default c = record { found = tt; none = λ b h. elim c.in-Err.ensures.err [ inl e ↦ absurd (c.in_default.not-OutOfMemory e) | inr e ↦ not_hex _ _ _ e h ] }

pub returns-then-len-eq0-clause-none : goal.returns-then-len-eq0-clause-none
returns-then-len-eq0-clause-none c = λ b h. let e = unhexed _ _ _ c.in-Ok.ensures.ok h in omega (arith, ap length e, ap length c.of-bytes.ensures, h.1.0)

pub returns-then-eq-clause-found : goal.returns-then-eq-clause-found
returns-then-eq-clause-found c =
    let e = same_text _ _ (sym c.if-eq.true ∙ c.eq.ensures) in
    let f = c.as_bytes.ensures.value in
    let g = c.in_ok-again.ensures in
    let s = c.as_slice.ensures in
    (sym e ∙ f ∙ g ∙ ap encode_lower s, (omega arith, rw c.of-bytes.ensures ((decode_of-ok _ _ c.in-Ok.ensures.ok).3)))

pub returns-else-eq-clause-none : goal.returns-else-eq-clause-none
returns-else-eq-clause-none c = λ b h.
    let e = other_text _ _ (sym c.if-eq.false ∙ c.eq.ensures) in
    let f = c.as_bytes.ensures.value in
    let g = c.in_ok-again.ensures in
    let s = c.as_slice.ensures in
    let k = unhexed _ _ _ c.in-Ok.ensures.ok h in
    e (f ∙ g ∙ ap encode_lower (s ∙ c.of-bytes.ensures ∙ k) ∙ sym h.0)
