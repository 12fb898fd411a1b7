use Rattle.std.proofs.Common.{ℤ, ◌∙◌, ap, w64}
use Rattle.std.proofs.lemmas.Int.{to_z-of_z}
use Rattle.tree_state.specs.Nodes.{ephemerals}
use Rattle.tree_state.specs.Step.{given_to}
use Rattle.tree_state.proofs.tree.Tree.given.Goals as goal

pub returns : goal.returns
returns g c = λ s m.
    c.given.ensures s.sessions (λ k. ephemerals k s.nodes) m.sessions
    ∙ ap (λ (z : ℤ). given_to s.sessions c.args.asked.now z c.args.password) (to_z-of_z w64 c.args.fresh c.ranges.fresh)
