use Rattle.tree_state.proofs.Readings.{no_stat_at, stat_at_is}
use Rattle.tree_state.proofs.tree.Tree.stat.Goals as goal

pub returns-in-Some : goal.returns-in-Some
returns-in-Some g c = λ s p m t. stat_at_is s.nodes p _ _ (c.in-Some.ensures s.nodes p m.places t) c.stat.ensures

pub returns-in-None : goal.returns-in-None
returns-in-None g c = λ s p m t. no_stat_at s.nodes p (c.in-None.ensures s.nodes p m.places t)
