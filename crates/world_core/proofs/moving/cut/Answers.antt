use Rattle.world_core.proofs.OneSpot.{cuts_spot}
use Rattle.world_core.proofs.moving.cut.Goals as goal

pub returns : goal.returns
returns g c = λ k boot s st a keeps.
    cuts_spot _ k boot c.args.number s _ (record { lost = c.lose.ensures.lost s.past st a; ended = λ e. c.lose.ensures.ended s.past e st a })
    (c.cut.ensures k boot c.args.number _ _ (c.end.ensures k boot c.args.number _ _ keeps))
