use Rattle.std.proofs.Common.{arith}
use Rattle.world_core.proofs.OneSpot.{all_of, at_most, pulls, waits_none}
use Rattle.world_core.proofs.moving.pull.Goals as goal

pub returns-in_ok-pull-in-AtMost : goal.returns-in_ok-pull-in-AtMost
returns-in_ok-pull-in-AtMost g c = λ past st a.
    let p = c.in_ok-pull-in-AtMost.ensures in
    pulls (g.S.StoreSide.stands c.pull.new.self) c.args.number _ _ past _ _ (at_most c.args.amount _ _ _ c.in-AtMost.is (p.count past st a)) (p.moved past st a) (p.left past st a)

pub returns-else-waiting-gt0 : goal.returns-else-waiting-gt0
returns-else-waiting-gt0 g c = λ past st a.
    let p = c.in_ok-pull-in-All.ensures in
    let w = waits_none (g.S.StoreSide.stands c.pull-in-All.new.self) _ past c.waiting.result c.args.number (p.left past st a) a c.waiting.ensures.all (omega (arith, c.if-waiting-gt0.false)) in
    pulls (g.S.StoreSide.stands c.pull-in-All.new.self) c.args.number _ _ past _ _ (all_of c.args.amount _ _ _ c.in-All.is (p.count past st a) w) (p.moved past st a) (p.left past st a)
