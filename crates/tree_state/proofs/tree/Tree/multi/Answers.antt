use Rattle.std.proofs.Common.{List, None, All, sym, ap, subst, ◌∙◌, rules, w32, length}
use Rattle.std.specs.Int.RustNames.{FitsSigned}
use Rattle.std.specs.List.{AllZip}
use Rattle.std.proofs.lemmas.Int.{to_z-of_z}
use Rattle.zk_messages.specs.Refuses.{RefusesOp}
use Rattle.zk_messages.specs.declared.request.Op.{Op}
use Rattle.tree_state.specs.Commands.{IsChange}
use Rattle.tree_state.proofs.AllOrNone.{nothing_done, not_done, all_done, none_done}
use Rattle.tree_state.proofs.tree.Tree.multi.Goals as goal

pub returns-in_err-trial-clause-answers : goal.returns-in_err-trial-clause-answers
returns-in_err-trial-clause-answers g c = λ naming k s changes m im room nm allowed asked. nothing_done s _ _ _ _ _ _ m c.from_residual.ensures.1

pub returns-in_err-append-in-Ok-clause-answers : goal.returns-in_err-append-in-Ok-clause-answers
returns-in_err-append-in-Ok-clause-answers g c = λ naming k s changes m im room nm allowed asked. nothing_done s _ _ _ _ _ _ m c.from_residual-in_err-append-in-Ok.ensures.1

pub returns-in_err-make_room-in-Ok-clause-answers : goal.returns-in_err-make_room-in-Ok-clause-answers
returns-in_err-make_room-in-Ok-clause-answers g c = λ naming k s changes m im room nm allowed asked. nothing_done s _ _ _ _ _ _ m c.from_residual-in_err-make_room-in-Ok.ensures.1

pub returns-in-Ok-clause-answers : goal.returns-in-Ok-clause-answers
returns-in-Ok-clause-answers g c = λ naming k s changes m im room nm allowed asked.
    all_done naming c.args.at.now k s changes (length c.as_slice.result.now) c.perform_all.new.self c.args.outputs.now c.new-events.result c.perform_all.new.outputs c.make_room.new.outputs c.in-Ok.results c.of.result
    (c.in-Ok.ensures.performs naming s changes (c.in_ok-trial.ensures s m) im nm
    (subst (All (λ (op : Op). RefusesOp op None)) (sym c.as_slice.ensures) allowed) (subst (λ (ops : List Op). AllZip IsChange ops changes) (sym c.as_slice.ensures) asked))
    c.new-events.ensures.items (c.in_ok-make_room-in-Ok.ensures.items ∙ c.in_ok-append-in-Ok.ensures.items) c.in_ok-make_room-in-Ok.ensures.room c.of.ensures

pub returns-in_err-failed_results-in-Err-At-clause-answers : goal.returns-in_err-failed_results-in-Err-At-clause-answers
returns-in_err-failed_results-in-Err-At-clause-answers g c = λ naming k s changes m im room nm allowed asked. nothing_done s _ _ _ _ _ _ m c.from_residual-in_err-failed_results-in-Err-At.ensures.1

pub returns-in-Err-At-clause-answers : goal.returns-in-Err-At-clause-answers
returns-in-Err-At-clause-answers g c = λ naming k s changes m im room nm allowed asked.
    let f : FitsSigned w32 c.in-Err-At.code = search rules in
    none_done naming c.args.at.now k s changes (length c.as_slice.result.now) c.in-Err-At.index c.in-Err-At.code c.args.self.now.held c.perform_all.new.self c.args.outputs.now c.new-events.result c.perform_all.new.outputs _ m room
    ((rw (c.in-Err-At.field-0-is) at c.in-Err-At.ensures.performs) naming s changes (c.in_ok-trial.ensures s m) im nm
    (subst (All (λ (op : Op). RefusesOp op None)) (sym c.as_slice.ensures) allowed) (subst (λ (ops : List Op). AllZip IsChange ops changes) (sym c.as_slice.ensures) asked))
    (λ behind e. (simp to_z-of_z at c.in_ok-failed_results-in-Err-At.ensures) behind (c.len.ensures ∙ ap length (sym c.as_slice.ensures) ∙ e))

pub returns-clause-answers : goal.returns-clause-answers
returns-clause-answers g c = λ naming k s changes m im room nm allowed asked. not_done s _ _ _ _ _ m
