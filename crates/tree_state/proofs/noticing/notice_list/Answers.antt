use Rattle.std.proofs.Common.{◌∙◌, ◌∷◌, ◌+◌, ℕ, List, arith, drop, sym, ap, subst}
use Rattle.std.proofs.lemmas.List.{drop_more, drop_all}
use Rattle.zk_path.specs.Paths.{IsTextOf}
use Rattle.tree_state.proofs.Notices.{out_of_memory, no_list, first_ahead, next_ahead, stopped_ahead, ended_ahead}
use Rattle.tree_state.proofs.noticing.notice_list.Goals as goal

pub returns-in_default : goal.returns-in_default
returns-in_default c = λ es start told t ps holds texts h. no_list _ start told t _ _ _ c.args.interest _ es _ ps _ c.in_default.is texts h

pub loop-path-init : goal.loop-path-init
loop-path-init c = λ es start told t ps holds texts h.
    first_ahead _ start told t _ _ _ c.args.interest _ es _ _ _ ps c.in-Some.is c.as_slice-path-items.ensures texts h

pub returns-in_err-notice_path : goal.returns-in_err-notice_path
returns-in_err-notice_path c = λ es start told t ps holds texts h.
    out_of_memory _ start told _ _ _ _ _ _ c.from_residual.ensures.1
    (stopped_ahead _ start told c.args.interest _ es c.path-item.result _ _ _ _ _ _ _ _ _ _
    (drop_more c.as_slice-path-items.result.now c.loop-path.path-index c.path-item.result c.loop-path-test.true
    ∙ ap (λ (k : List ℕ). k ∷ drop (c.loop-path.path-index + 1) c.as_slice-path-items.result.now) (sym c.path-item.is))
    (λ u p text so_far. c.in_err-notice_path.ensures es start told u p holds (subst (λ (k : List ℕ). IsTextOf k p) (sym c.as_str.ensures) text) so_far)
    (c.loop-path.invariant es start told t ps holds texts h))

pub loop-path-preserved : goal.loop-path-preserved
loop-path-preserved c = λ es start told t ps holds texts h.
    next_ahead _ start told c.args.interest _ es c.path-item.result _ _ _ _ _ _ _ _ _ _
    (drop_more c.as_slice-path-items.result.now c.loop-path.path-index c.path-item.result c.loop-path-test.true
    ∙ ap (λ (k : List ℕ). k ∷ drop (c.loop-path.path-index + 1) c.as_slice-path-items.result.now) (sym c.path-item.is))
    (λ u p text so_far. c.in_ok-notice_path.ensures es start told u p holds (subst (λ (k : List ℕ). IsTextOf k p) (sym c.as_str.ensures) text) so_far)
    (c.loop-path.invariant es start told t ps holds texts h)

pub returns : goal.returns
returns c = λ es start told t ps holds texts h.
    ended_ahead _ start told c.args.interest _ es _ _ _ _ _ _
    (drop_all c.loop-path.path-index c.as_slice-path-items.result.now (omega (arith, c.loop-path-test.false)))
    (c.loop-path.invariant es start told t ps holds texts h)
