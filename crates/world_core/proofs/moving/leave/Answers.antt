use Rattle.world_core.proofs.OneSpot.{leaves_spot, stays_spot}
use Rattle.world_core.proofs.moving.leave.Goals as goal

pub returns-then-is_done : goal.returns-then-is_done
returns-then-is_done g c = λ k boot s st a keeps.
    leaves_spot _ k boot c.args.number s _ ((c.is_done.ensures k boot c.args.number _ _ keeps).0 c.if-is_done.true)
    (record { lost = c.lose.ensures.lost s.past st a; ended = λ e. c.lose.ensures.ended s.past e st a }) keeps

pub returns-else-is_done : goal.returns-else-is_done
returns-else-is_done g c = λ k boot s st a keeps.
    stays_spot _ k boot c.args.number s _ (λ h. let t = (c.is_done.ensures k boot c.args.number _ _ keeps).1 h in let f = c.if-is_done.false in absurd cc) st keeps
