use Rattle.std.proofs.Common.{◌∙◌, ◌∷◌, ◌+◌, List, arith, drop, length, sym, ap, subst, rules, w64, FitsSigned}
use Rattle.std.proofs.lemmas.Int.{to_z-of_z}
use Rattle.std.proofs.lemmas.List.{drop_more, drop_all}
use Rattle.zk_messages.specs.declared.request.Op.{Op}
use Rattle.tree_state.specs.Multis.{SoFar}
use Rattle.tree_state.proofs.Folding.{none_yet, one_more, one_refused, all_done, passed_on, kept_naming}
use Rattle.tree_state.proofs.held.Held.perform_all.Goals as goal

pub loop-op-init : goal.loop-op-init
loop-op-init g c = record {
  names = λ stem number text. (λ h. h, λ h. h);
  done = λ naming s changes m im nm allowed asked.
      subst (λ rs. SoFar naming c.args.at.now s changes c.args.self.now c.args.outputs.now c.args.outputs.now rs c.args.ops.now (length c.args.ops.now)) (sym c.new-results.ensures.items)
      (none_yet naming c.args.at.now s changes c.args.self.now c.args.outputs.now c.args.ops.now m im allowed asked);
}

pub returns-in_err-perform_next-clause-performs : goal.returns-in_err-perform_next-clause-performs
returns-in_err-perform_next-clause-performs g c = λ naming s changes m im nm allowed asked.
    passed_on _ _ _ _ _ _ c.in_err-perform_next.field-0.0 c.from_residual.ensures.1
    (one_refused _ naming c.args.at.now s changes c.loop-op.self c.perform_next.new.self c.perform_next.new.self c.args.outputs.now c.loop-op.outputs c.perform_next.new.outputs c.perform_next.new.outputs c.loop-op.results.items
    c.perform_next.new.results.items c.op-item.result _ _ c.in_err-perform_next.field-0.0
    (subst (λ (xs : List Op). SoFar naming c.args.at.now s changes c.loop-op.self c.args.outputs.now c.loop-op.outputs c.loop-op.results.items xs (length c.args.ops.now))
    (drop_more c.args.ops.now c.loop-op.op-index c.op-item.result c.loop-op-test.true ∙ ap (λ (k : Op). k ∷ drop (c.loop-op.op-index + 1) c.args.ops.now) (sym c.op-item.is))
    (c.loop-op.invariant.done naming s changes m im nm allowed asked))
    (λ b change mb imb rf k. c.in_err-perform_next.ensures.performs naming b change mb imb (kept_naming _ _ naming c.loop-op.invariant.names nm) rf k))

pub returns-in_err-perform_next-clause-names : goal.returns-in_err-perform_next-clause-names
returns-in_err-perform_next-clause-names g c = λ stem number text.
    let now = c.in_err-perform_next.ensures.names stem number text in
    let before = c.loop-op.invariant.names stem number text in
    (λ h. before.0 (now.0 h), λ h. now.1 (before.1 h))

pub loop-op-preserved : goal.loop-op-preserved
loop-op-preserved g c = record {
  names = λ stem number text.
      let now = c.in_ok-perform_next.ensures.names stem number text in
      let before = c.loop-op.invariant.names stem number text in
      (λ h. before.0 (now.0 h), λ h. now.1 (before.1 h));
  done = λ naming s changes m im nm allowed asked.
      one_more naming c.args.at.now s changes c.loop-op.self c.perform_next.new.self c.args.outputs.now c.loop-op.outputs c.perform_next.new.outputs c.loop-op.results.items c.perform_next.new.results.items c.op-item.result _
      c.in_ok-perform_next.field-0 _
      (subst (λ (xs : List Op). SoFar naming c.args.at.now s changes c.loop-op.self c.args.outputs.now c.loop-op.outputs c.loop-op.results.items xs (length c.args.ops.now))
      (drop_more c.args.ops.now c.loop-op.op-index c.op-item.result c.loop-op-test.true ∙ ap (λ (k : Op). k ∷ drop (c.loop-op.op-index + 1) c.args.ops.now) (sym c.op-item.is))
      (c.loop-op.invariant.done naming s changes m im nm allowed asked))
      (λ b change mb imb rf k. c.in_ok-perform_next.ensures.performs naming b change mb imb (kept_naming _ _ naming c.loop-op.invariant.names nm) rf k);
}

pub returns-clause-performs : goal.returns-clause-performs
returns-clause-performs g c = λ naming s changes m im nm allowed asked.
    let z : FitsSigned w64 c.args.at.now.zxid = search rules in
    all_done naming c.args.at.now s changes c.loop-op.self c.args.outputs.now c.loop-op.outputs c.loop-op.results _ _
    (subst (λ (xs : List Op). SoFar naming c.args.at.now s changes c.loop-op.self c.args.outputs.now c.loop-op.outputs c.loop-op.results.items xs (length c.args.ops.now))
    (drop_all c.loop-op.op-index c.args.ops.now (omega (arith, c.loop-op-test.false))) (c.loop-op.invariant.done naming s changes m im nm allowed asked))
    (to_z-of_z w64 c.args.at.now.zxid z)

pub returns-clause-names : goal.returns-clause-names
returns-clause-names g c = c.loop-op.invariant.names
