use Rattle.std.proofs.Common.{rules, ap}
use Rattle.tree_hall.proofs.Passes.{joins, counts_met}
use Rattle.tree_hall.proofs.turns.gather.Goals as goal

pub join_seat-requires : goal.join_seat-requires
join_seat-requires g c = (search rules, search rules, search rules, search rules, joins g.S.StoreSide.stands _ _ _ _ _ c.requires.idle.0 c.requires.other.0)

pub fetch_add-requires : goal.fetch_add-requires
fetch_add-requires g c = (search rules, search rules, counts_met g.S.StoreSide.stands _ g.J.Opening.opened c.requires.opened _ _ _ _ (ap (λ m. m.0.role) c.join_seat.ensures.2))
