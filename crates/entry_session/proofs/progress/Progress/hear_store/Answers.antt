use Rattle.std.proofs.Common.{◌≡◌, subst}
use Rattle.entry_session.specs.Kept.{Going}
use Rattle.entry_session.specs.declared.progress.Phase.TheVariants.{Unasked}
use Rattle.entry_session.proofs.StoreSide.{unasked_ends}
use Rattle.entry_session.proofs.progress.Progress.hear_store.Goals as goal

pub returns-in-Unasked-clause-hears : goal.returns-in-Unasked-clause-hears
returns-in-Unasked-clause-hears c = λ f s g none.
    unasked_ends c.args.self.now s _ _ _ _ (subst (λ (kept : Going). kept.phase ≡ Unasked) c.self.view_is c.in-Unasked.is) g c.unasked.ensures
