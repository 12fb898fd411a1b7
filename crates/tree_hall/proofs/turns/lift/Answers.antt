use Rattle.std.proofs.Common.{◌∷◌, Some, sym, ap, ◌∙◌}
use Rattle.atomic_table.specs.Table.{rest}
use Rattle.tree_hall.proofs.turns.lift.Goals as goal

pub exchange-requires : goal.exchange-requires
exchange-requires g c = let e = c.requires.1.1 in (c.requires.0, (Some c.requires.1.0, e ∙ ap (λ cs. (0, Some c.requires.1.0) ∷ rest cs) (sym e)))
