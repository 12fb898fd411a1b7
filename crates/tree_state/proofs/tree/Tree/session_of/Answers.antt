use Rattle.tree_state.specs.Nodes.{ephemerals}
use Rattle.tree_state.proofs.tree.Tree.session_of.Goals as goal

pub returns : goal.returns
returns g c = λ s m. c.session_of.ensures s.sessions (λ k. ephemerals k s.nodes) m.sessions
