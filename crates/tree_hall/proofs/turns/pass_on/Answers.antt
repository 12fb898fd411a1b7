use Rattle.std.proofs.Common.{rules}
use Rattle.tree_hall.proofs.Keeps.{passes_on}
use Rattle.tree_hall.proofs.turns.pass_on.Goals as goal

pub store-requires : goal.store-requires
store-requires g c = (search rules, search rules, passes_on g.S.StoreSide.stands _ g.J.Opening.opened c.requires.opened _ _ _ _ c.args.desk.now.value c.requires.told.0 c.requires.told.2 c.requires.store)
