use Rattle.tree_state.proofs.Readings.{no_names_at, names_at_is}
use Rattle.tree_state.proofs.tree.Tree.children.Goals as goal

pub returns-in_ok-child_names-in-Some : goal.returns-in_ok-child_names-in-Some
returns-in_ok-child_names-in-Some g c = λ s p m t. names_at_is s.nodes p c.in-Some.node.now _ (c.in-Some.ensures s.nodes p m.places t) c.in_ok-child_names-in-Some.ensures

pub returns-in-None : goal.returns-in-None
returns-in-None g c = λ s p m t. no_names_at s.nodes p (c.in-None.ensures s.nodes p m.places t)
