use Rattle.std.proofs.Common.{FitsSigned, w64}
use Rattle.std.proofs.lemmas.Int.{to_z-of_z}
use Rattle.world_core.proofs.OneSpot.{feeds_spot}
use Rattle.world_core.proofs.moving.feed.Goals as goal

pub returns : goal.returns
returns g c = λ k boot s st a keeps.
    let n : FitsSigned w64 c.args.now = c.ranges.now in
    feeds_spot _ k boot c.args.number c.args.now c.args.amount s _ c.unfed.result.now c.feed.result (c.unfed.ensures k boot c.args.number _ _ keeps) c.in_ok-took.ensures
    ((simp to_z-of_z at c.feed.ensures.fed) s.past st a) (λ e. c.feed.ensures.ended s.past e st a)
    (c.deliver.ensures k boot c.args.number _ _ keeps)
