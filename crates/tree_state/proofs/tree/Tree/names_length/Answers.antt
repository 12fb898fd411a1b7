use Rattle.tree_state.proofs.Readings.{no_length_at, length_at_is}
use Rattle.tree_state.proofs.tree.Tree.names_length.Goals as goal

pub returns-in-Some : goal.returns-in-Some
returns-in-Some g c = λ s p m t. length_at_is s.nodes p c.in-Some.node.now _ (c.in-Some.ensures s.nodes p m.places t) c.names_length.ensures

pub returns-in-None : goal.returns-in-None
returns-in-None g c = λ s p m t. no_length_at s.nodes p (c.in-None.ensures s.nodes p m.places t)
