use Rattle.std.proofs.Common.{rules, w32}
use Rattle.std.specs.Int.RustNames.{FitsSigned}
use Rattle.std.proofs.lemmas.Int.{to_z-of_z}
use Rattle.request_rewrite.proofs.Whole.{refused_veil, refused_asks, refused_left, plain_veil, plain_spent}
use Rattle.request_rewrite.proofs.veiling.form_of.Goals as goal

pub returns-in_err-stand_in-clause-memory : goal.returns-in_err-stand_in-clause-memory
returns-in_err-stand_in-clause-memory c =
    λ _ n p. refused_left _ _ _ _ (rw c.in-Some.is at c.refusal_of.ensures) c.left-left.ensures n p

pub returns-in-Some-clause-veiled : goal.returns-in-Some-clause-veiled
returns-in-Some-clause-veiled c =
    refused_veil _ _ _ _ _ (rw c.in-Some.is at c.refusal_of.ensures) c.in_ok-stand_in.ensures

pub returns-in-Some-clause-asks : goal.returns-in-Some-clause-asks
returns-in-Some-clause-asks c =
    let fits : FitsSigned w32 c.in-Some.code = search rules in
    simp to_z-of_z (refused_asks _ _ (rw c.in-Some.is at c.refusal_of.ensures))

pub returns-then-left-payloads-clause-spent : goal.returns-then-left-payloads-clause-spent
returns-then-left-payloads-clause-spent c =
    λ _ n p. plain_spent _ _ _ _ (rw c.in_default.is at c.refusal_of.ensures) c.left-left.ensures c.payloads_of-payloads.ensures c.if-left-payloads.true n p

pub returns-clause-veiled : goal.returns-clause-veiled
returns-clause-veiled c =
    rw c.payloads_of-payloads.ensures (plain_veil _ _ _ _ _ (rw c.in_default.is at c.refusal_of.ensures) c.in_ok-request.ensures)
