use Rattle.std.proofs.Common.{refl}
use Rattle.tree_state.proofs.Notices.{not_noticed, out_of_memory, noticed_all, event_noticed, watch_noticed}
use Rattle.tree_state.proofs.noticing.notice_path.Goals as goal

pub returns-in_err-event-in-Some : goal.returns-in_err-event-in-Some
returns-in_err-event-in-Some c = λ es start told t p holds text h.
    out_of_memory _ start told _ _ _ _ _ _ c.from_residual.ensures.1 (not_noticed _ start told t _ _ _ _ _ (λ w. w) refl h)

pub returns-in_err-push-in-Some : goal.returns-in_err-push-in-Some
returns-in_err-push-in-Some c = λ es start told t p holds text h.
    out_of_memory _ start told _ _ _ _ _ _ c.from_residual-in_err-push-in-Some.ensures.1 (not_noticed _ start told t _ _ _ _ _ (λ w. w) refl h)

pub returns-in_err-add-in-None : goal.returns-in_err-add-in-None
returns-in_err-add-in-None c = λ es start told t p holds text h.
    out_of_memory _ start told _ _ _ _ _ _ c.from_residual-in_err-add-in-None.ensures.1
    (not_noticed _ start told t _ _ _ _ _ (c.in_err-add-in-None.ensures.err t.kept) c.in_err-add-in-None.ensures.list h)

pub returns-in_ok-push-in-Some : goal.returns-in_ok-push-in-Some
returns-in_ok-push-in-Some c = λ es start told t p holds text h.
    noticed_all _ start told _ _ _ _ _
    (event_noticed _ start told t _ _ _ _ c.args.interest _ es p _ c.in-Some.kind _ (c.find.ensures es p holds text) c.in-Some.ensures
    (c.in_ok-event-in-Some.ensures p text) c.in_ok-push-in-Some.ensures.items h)

pub returns-in_ok-add-in-None : goal.returns-in_ok-add-in-None
returns-in_ok-add-in-None c = λ es start told t p holds text h.
    noticed_all _ start told _ _ _ _ _
    (watch_noticed _ start told t _ _ _ _ _ c.args.interest _ es p _ (c.find.ensures es p holds text) c.in-None.ensures
    (λ w. c.in_ok-add-in-None.ensures.ok t.kept p w text) (λ w b. c.in_ok-add-in-None.ensures.back t.kept start p w text b) h)
