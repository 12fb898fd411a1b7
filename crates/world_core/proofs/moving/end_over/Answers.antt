use Rattle.std.proofs.Common.{◌∙◌, ap, sym}
use Rattle.std.specs.Prelude.{is_some}
use Rattle.world_core.proofs.OneSpot.{keeps_on, keeps_over, over_not_some}
use Rattle.world_core.proofs.moving.end_over.Goals.{else-waiting-eq0-via-then-waiting-eq0+else-is_some, else-waiting-eq0-via-else-waiting-eq0}
use Rattle.world_core.proofs.moving.end_over.Goals as goal

pub returns-then-is_some : goal.returns-then-is_some
returns-then-is_some g c = λ k boot s st a written keeps.
    keeps_over k boot c.args.number s _ (ap is_some (sym (c.ending.ensures s.past st a)) ∙ sym c.is_some.ensures ∙ c.if-is_some.true) (sym (c.waiting.ensures.all s.past st a written) ∙ c.if-waiting-eq0.true)
    (c.end.ensures k boot c.args.number _ _ keeps)

pub returns-else-waiting-eq0 : goal.returns-else-waiting-eq0
returns-else-waiting-eq0 g c = λ k boot s st a written keeps.
    keeps_on k boot c.args.number s _ (λ h e. elim c.else-waiting-eq0.branch [
      | else-waiting-eq0-via-then-waiting-eq0+else-is_some w ↦ over_not_some _ _ (w.ending.ensures s.past st a) h (sym w.is_some.ensures ∙ w.if-is_some.false)
      | else-waiting-eq0-via-else-waiting-eq0 w ↦ w.if-waiting-eq0.false (c.waiting.ensures.all s.past st a written ∙ e)
    ]) keeps
