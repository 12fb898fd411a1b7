use Rattle.std.proofs.lemmas.Result.{err_from_is_err_and}
use Rattle.tree_server.proofs.WholeFeeds.{stands_admitted}
use Rattle.tree_server.proofs.server.TreeServerStoreSide.admit.Goals as goal

pub returns-in_err-admit-clause-used : goal.returns-in_err-admit-clause-used
returns-in_err-admit-clause-used g c =
    let p = err_from_is_err_and c.from_residual.result c.from_residual.ensures.1 in
    rw (p.1, p.2) (λ past st e. c.in_err-admit.ensures.used past st.both.lines_are e)

pub returns-clause-number : goal.returns-clause-number
returns-clause-number g c = λ past st.
    let h = c.in_ok-admit.ensures.number past st.both.lines_are in
    (h.0, stands_admitted _ _ _ _ _ _ _ past st h.1)
