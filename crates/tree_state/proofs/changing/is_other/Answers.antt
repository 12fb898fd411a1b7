use Rattle.std.proofs.Common.{ℕ, ℤ, not, nat_eq, sym, ap, ◌∙◌, rules, w32, w64}
use Rattle.std.specs.Ordering.{int_eq}
use Rattle.std.specs.Int.RustNames.{FitsSigned}
use Rattle.std.specs.Int.{cast_signed}
use Rattle.std.proofs.lemmas.Int.{to_z-of_z}
use Rattle.tree_state.proofs.Changed.{same_bits, other_so, any_version}
use Rattle.tree_state.proofs.changing.is_other.Goals as goal

pub returns-then-asked-neminus1 : goal.returns-then-asked-neminus1
returns-then-asked-neminus1 c =
    let v : FitsSigned w32 c.args.asked = search rules in
    let f : FitsSigned w64 c.from.result = search rules in
    let g : FitsSigned w64 c.from-then-asked-neminus1.result = search rules in
    other_so c.args.asked c.args.version _ (λ e. c.if-asked-neminus1.true (ap (λ (z : ℤ). mir.Val.of_z w32 z) e))
    (same_bits c.from.result c.from-then-asked-neminus1.result f g ∙ ap (λ (z : ℤ). int_eq z c.from-then-asked-neminus1.result) (c.from.ensures ∙ to_z-of_z w32 c.args.asked v)
    ∙ ap (int_eq c.args.asked) c.from-then-asked-neminus1.ensures)

pub returns-else-asked-neminus1 : goal.returns-else-asked-neminus1
returns-else-asked-neminus1 c =
    let f : FitsSigned w32 c.args.asked = search rules in
    ap (λ (x : ℕ). not (nat_eq x 4294967295)) c.if-asked-neminus1.false
    ∙ sym (any_version c.args.asked c.args.version (sym (to_z-of_z w32 c.args.asked f) ∙ ap (cast_signed w32) c.if-asked-neminus1.false))
