use Rattle.std.proofs.Common.{Err, ap, refl, ◌∙◌}
use Rattle.std.proofs.lemmas.Result.{err_from_is_err_and}
use Rattle.entry_session.proofs.ClientLoop.{reaches_none, reaches_after, heard_at, none_at, ends_part, ends_failed, wants_here}
use Rattle.entry_session.proofs.Taking.{one_of_one, less_left, same_end}
use Rattle.entry_session.proofs.session.take_client.Goals as goal

pub loop-count-init : goal.loop-count-init
loop-count-init c = record { limit = c.requires; same = record { keys = refl; boot = refl; connection = refl }; reached = λ hs s g. reaches_none _ hs s _ _ g }

pub returns-in_err-count-clause-takes : goal.returns-in_err-count-clause-takes
returns-in_err-count-clause-takes c =
    let p = err_from_is_err_and c.from_residual.result c.from_residual.ensures.1 in
    let i = c.loop-count.invariant in
    rw (p.1, p.2) (λ out_of hs s g. ends_failed _ _ _ _ _ hs s _ _ _ _ _ _ i.same i.limit (c.in_err-count.ensures.next (λ m. out_of (ap Err m))) (i.reached hs s g))

pub returns-in_err-count-clause-wants : goal.returns-in_err-count-clause-wants
returns-in_err-count-clause-wants c =
    let p = err_from_is_err_and c.from_residual.result c.from_residual.ensures.1 in
    rw (p.1, p.2) (λ m hs s g. wants_here _ _ hs s _ _ _ _ _ _ (c.in_err-count.ensures.wants (ap Err (same_end _ _ m))) (c.loop-count.invariant.reached hs s g))

pub loop-count-smaller : goal.loop-count-smaller
loop-count-smaller c =
    let h = heard_at _ _ _ _ _ _ _ _ _ c.in-Some.is c.in_ok-count.ensures.next in
    less_left _ _ _ _ _ _ c.split_at.ensures.back h.cuts

pub loop-count-preserved : goal.loop-count-preserved
loop-count-preserved c =
    let i = c.loop-count.invariant in
    let h = heard_at _ _ _ _ _ _ _ _ _ c.in-Some.is c.in_ok-count.ensures.next in
    record {
      limit = c.hear_next_of_client.ensures.limit ∙ i.limit;
      same = one_of_one _ _ _ i.same c.hear_next_of_client.ensures.same;
      reached = λ hs s g. reaches_after _ _ _ _ _ hs s _ _ _ _ _ _ _ c.split_at.ensures.back i.same i.limit h (i.reached hs s g);
    }

pub returns-clause-takes : goal.returns-clause-takes
returns-clause-takes c =
    let i = c.loop-count.invariant in
    let h = none_at _ _ _ _ _ _ _ _ c.in_default.is c.in_ok-count.ensures.next in
    λ out_of hs s g. ends_part _ _ _ _ _ hs s _ _ _ _ _ i.limit h (i.reached hs s g)
