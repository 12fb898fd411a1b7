use Rattle.std.proofs.Common.{rules}
use Rattle.tree_hall.proofs.Keeps.{tells}
use Rattle.tree_hall.proofs.turns.tell.Goals as goal

pub store-requires : goal.store-requires
store-requires g c = (search rules, search rules, tells g.S.StoreSide.stands _ g.J.Opening.opened c.requires.opened _ _ _ _ c.args.desk.now.value c.requires.has.0 c.requires.has.2 c.requires.played)
