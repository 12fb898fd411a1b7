use Rattle.std.proofs.Common.{◌≤◌, ◌^◌, Err, ap, subst}
use Rattle.std.proofs.lemmas.Result.{err_from_is_err_and}
use Rattle.entry_session.specs.Kept.{Going}
use Rattle.entry_session.specs.declared.progress.Phase.TheVariants.{Asked}
use Rattle.entry_session.proofs.ClientSide.{connect_refused, connect_handed, none_is}
use Rattle.entry_session.proofs.progress.Progress.hear_connect.Goals as goal

pub returns-in_err-asked-clause-hears : goal.returns-in_err-asked-clause-hears
returns-in_err-asked-clause-hears c =
    let p = err_from_is_err_and c.from_residual.result c.from_residual.ensures.1 in
    rw (p.1, p.2) (λ not s g n. connect_refused _ _ _ s _ _ g c.requires.phase (λ m. not (ap Err m)) c.in_err-asked.ensures.refused)

pub returns-clause-hears : goal.returns-clause-hears
returns-clause-hears c = λ not s g n.
    connect_handed _ _ s c.in_ok-asked.asked c.is_none-older.result _ _ _ g n c.requires.phase c.in_ok-asked.ensures.read (none_is _ _ c.is_none-older.ensures)
    (subst (λ (x : Going). x.ivs.count ≤ 2 ^ 32) c.self.view_is c.self.invariant.0.left)
    (ap (λ (x : Going). record x { phase = Asked c.is_none-older.result }) c.self.view_is)
    c.in_ok-write_frame.ensures.ok
