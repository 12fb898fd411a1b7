use Rattle.std.proofs.Common.{rules, ap}
use Rattle.tree_hall.proofs.Passes.{splits}
use Rattle.tree_hall.proofs.turns.part.Goals as goal

pub split_seat-other-requires : goal.split_seat-other-requires
split_seat-other-requires g c = (search rules, search rules, splits g.S.StoreSide.stands _ _ _ _ (ap (λ m. m.0.role) c.draw_number-number.ensures.view))
