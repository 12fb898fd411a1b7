use Rattle.std.proofs.Common.{ℤ, sym, ap, ◌∙◌, rules, w64}
use Rattle.std.specs.Int.RustNames.{FitsSigned}
use Rattle.std.specs.Int.{cast_signed}
use Rattle.std.proofs.lemmas.Int.{to_z-of_z}
use Rattle.tree_state.proofs.Changed.{may_not_missing, may_not_owned, may_not_full, may_create}
use Rattle.tree_state.proofs.held.Held.may_create.Goals as goal

pub returns-in_default-clause-checks : goal.returns-in_default-clause-checks
returns-in_default-clause-checks c = λ s p m t. may_not_missing s p (c.in_default.ensures s.nodes p m.places t)

pub returns-then-up-ne0-clause-checks : goal.returns-then-up-ne0-clause-checks
returns-then-up-ne0-clause-checks c = λ s p m t. may_not_owned s p c.in-Some.up.now (c.in-Some.ensures s.nodes p m.places t) (λ z. c.if-up-ne0.true (ap (λ (x : ℤ). mir.Val.of_z w64 x) z))

pub returns-then-up-ge-LAST-clause-checks : goal.returns-then-up-ge-LAST-clause-checks
returns-then-up-ge-LAST-clause-checks c = λ s p m t.
    let f : FitsSigned w64 c.in-Some.up.now.numbers.owner = search rules in
    may_not_full s p c.in-Some.up.now (c.in-Some.ensures s.nodes p m.places t) (sym (to_z-of_z w64 c.in-Some.up.now.numbers.owner f) ∙ ap (cast_signed w64) c.if-up-ne0.false) c.if-up-ge-LAST.true

pub returns-clause-checks : goal.returns-clause-checks
returns-clause-checks c = λ s p m t.
    let f : FitsSigned w64 c.in-Some.up.now.numbers.owner = search rules in
    may_create s p c.in-Some.up.now (c.in-Some.ensures s.nodes p m.places t) (sym (to_z-of_z w64 c.in-Some.up.now.numbers.owner f) ∙ ap (cast_signed w64) c.if-up-ne0.false) c.if-up-ge-LAST.false
