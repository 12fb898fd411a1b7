use Rattle.std.proofs.Common.{subst}
use Rattle.tree_hall.specs.Turns.{Sat, Took}
use Rattle.tree_hall.proofs.turns.wait.Goals as goal

pub returns-then-take-clause-took : goal.returns-then-take-clause-took
returns-then-take-clause-took g c = subst (λ (m : Sat g.row.S.Denot). Took g.S.StoreSide.stands g.J.Opening.opened c.args.ticket m c.take.new.seat.me) c.loop.invariant.2 (c.take.ensures.took c.if-take.true)
