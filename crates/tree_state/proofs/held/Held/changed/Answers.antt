use Rattle.tree_state.proofs.Changed.{stat_here, not_here}
use Rattle.tree_state.proofs.held.Held.changed.Goals as goal

pub returns-in-Some : goal.returns-in-Some
returns-in-Some c = λ s p node m t found. stat_here s p node c.in-Some.node.now c.stat.result (c.in-Some.ensures s.nodes p m.places t) found c.stat.ensures

pub returns-in-None : goal.returns-in-None
returns-in-None c = λ s p node m t found. absurd (not_here s p node (c.in-None.ensures s.nodes p m.places t) found)
