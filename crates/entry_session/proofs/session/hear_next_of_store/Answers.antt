use Rattle.std.proofs.Common.{refl}
use Rattle.std.proofs.lemmas.Result.{err_from_is_err_and}
use Rattle.entry_session.specs.Pieces.{at_store_frame}
use Rattle.entry_session.proofs.StoreLoop.{store_unfed}
use Rattle.entry_session.proofs.Taking.{begins_frame, cuts_frame, keeps_part, none_failed, none_fine}
use Rattle.entry_session.proofs.session.hear_next_of_store.Goals as goal

pub returns-in_err-count-clause-next : goal.returns-in_err-count-clause-next
returns-in_err-count-clause-next c =
    let p = err_from_is_err_and c.from_residual.result c.from_residual.ensures.1 in
    rw (p.1, p.2) (λ out_of. store_unfed _ _ _ _ _ _ out_of c.in_err-count.ensures.err)

pub returns-in_default-clause-next : goal.returns-in_default-clause-next
returns-in_default-clause-next c = record { keeps = keeps_part _ _ _ _ c.in_ok-count.ensures.taken c.in_ok-count.ensures.open c.in_default.ensures.rest; going = refl; down_is = refl; findings_are = refl }

pub returns-in_err-hear_store-clause-next : goal.returns-in_err-hear_store-clause-next
returns-in_err-hear_store-clause-next c =
    let p = err_from_is_err_and c.from_residual-in_err-hear_store.result c.from_residual-in_err-hear_store.ensures.1 in
    rw (p.1, p.2) (λ out_of. at_store_frame c.in-Some.body.now (begins_frame _ _ _ _ _ c.in_ok-count.ensures.taken c.in-Some.ensures.some) (c.in_err-hear_store.ensures.hears (none_failed _ out_of)))

pub returns-clause-next : goal.returns-clause-next
returns-clause-next c = record {
  body = c.in-Some.body.now;
  cuts = cuts_frame _ _ _ _ _ _ c.end_frame.result c.in_ok-count.ensures.taken c.in-Some.ensures.some c.end_frame.ensures.ended c.end_frame.ensures.rest;
  hears = c.in_ok-hear_store.ensures.hears none_fine;
}
