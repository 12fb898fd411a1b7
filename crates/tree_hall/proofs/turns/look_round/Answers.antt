use Rattle.std.proofs.Common.{rules, ap}
use Rattle.tree_hall.proofs.Passes.{looks_met, looks_made}
use Rattle.tree_hall.proofs.turns.look_round.Goals as goal

pub load-met-requires : goal.load-met-requires
load-met-requires g c = (search rules, search rules, looks_met g.S.StoreSide.stands _ _ _ _ c.requires.idle.0)

pub load-made-requires : goal.load-made-requires
load-made-requires g c = (search rules, search rules, looks_made g.S.StoreSide.stands _ _ _ _ _ (ap (λ m. m.0.role) c.load-met.ensures.2))
