use Rattle.std.proofs.Common.{FitsSigned, w64}
use Rattle.std.proofs.lemmas.Int.{to_z-of_z}
use Rattle.world_core.proofs.OneSpot.{feeds_admitted}
use Rattle.world_core.proofs.moving.go_up.Goals as goal

pub returns : goal.returns
returns g c = λ k boot s st a keeps.
    let n : FitsSigned w64 c.args.now = c.ranges.now in
    let h = c.in_ok-hear_client.ensures k boot c.args.number _ _ keeps in
    let f = (simp to_z-of_z at c.in_ok-feed.ensures) k boot (record { past = s.past; link = h.0 }) st a h.2 in
    let l = c.leave.ensures k boot f.0 f.2 (feeds_admitted _ _ _ _ _ f.1 c.args.number a) f.3 in
    (l.0, record { link = h.0; comes = h.1; fed = f.0; feeds = f.1; leaves = l.1 }, l.2, l.3)
