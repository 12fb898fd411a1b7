use Rattle.world_core.proofs.OneSpot.{brought_admitted, goes_down}
use Rattle.world_core.proofs.moving.go_down.Goals as goal

pub returns : goal.returns
returns g c = λ k boot s st a keeps.
    let b = c.in_ok-bring.ensures k boot s st a keeps in
    let l = c.leave.ensures k boot b.0 b.2 (brought_admitted k boot c.args.number c.args.number c.args.amount s b.0 b.1 a) b.3 in
    (l.0, goes_down k boot c.args.number c.args.amount s b.0 l.0 b.1 l.1, l.2, l.3)
