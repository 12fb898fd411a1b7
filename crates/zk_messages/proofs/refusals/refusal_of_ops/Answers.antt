use Rattle.std.proofs.Common.{rules, arith, w32}
use Rattle.std.specs.Int.RustNames.{FitsSigned}
use Rattle.std.proofs.lemmas.Int.{to_z-of_z}
use Rattle.zk_messages.proofs.FirstRules.{op_refused, op_allowed, none_left}
use Rattle.zk_messages.proofs.refusals.refusal_of_ops.Goals as goal

pub returns-in-Some : goal.returns-in-Some
returns-in-Some c =
    let fits : FitsSigned w32 c.in-Some.code = search rules in
    let p = rw c.in-Some.is at c.refusal_of_op.ensures in
    simp to_z-of_z (op_refused _ _ _ _ c.loop-op-test.true c.op-item.is p c.loop-op.invariant)

pub loop-op-preserved : goal.loop-op-preserved
loop-op-preserved c =
    let p = rw c.in_default.is at c.refusal_of_op.ensures in
    op_allowed _ _ _ c.loop-op-test.true c.op-item.is p c.loop-op.invariant

pub returns : goal.returns
returns c = none_left _ _ (omega (arith, c.loop-op-test.false)) c.loop-op.invariant
