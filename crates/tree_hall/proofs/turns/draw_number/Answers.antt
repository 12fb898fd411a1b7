use Rattle.std.proofs.Common.{rules, arith, ap, ◌∙◌}
use Rattle.tree_hall.proofs.Passes.{numbers}
use Rattle.tree_hall.proofs.turns.draw_number.Goals as goal

pub compare_exchange-found-requires : goal.compare_exchange-found-requires
compare_exchange-found-requires g c = (search rules, search rules, numbers g.S.StoreSide.stands _ _ _ _ _ (ap (λ m. m.0.role) c.loop.invariant.2 ∙ c.requires.idle.0) (omega arith))
