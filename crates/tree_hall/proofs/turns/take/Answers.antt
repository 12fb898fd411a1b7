use Rattle.std.proofs.Common.{rules}
use Rattle.tree_hall.proofs.Keeps.{takes_store}
use Rattle.tree_hall.proofs.turns.take.Goals as goal

pub load-requires : goal.load-requires
load-requires g c = (search rules, search rules, takes_store g.S.StoreSide.stands _ g.J.Opening.opened c.requires.opened _ _ _ _ c.requires.waits.0 c.requires.waits.1)
