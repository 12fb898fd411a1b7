use Rattle.std.proofs.Common.{ℤ, ◌∙◌, ap, w64}
use Rattle.std.specs.Option.{option_map}
use Rattle.std.proofs.lemmas.Int.{to_z-of_z}
use Rattle.tree_state.specs.Nodes.{ephemerals}
use Rattle.tree_state.specs.Sessions.{live_of}
use Rattle.tree_state.specs.State.{session_at}
use Rattle.tree_state.proofs.tree.Tree.session.Goals as goal

pub returns : goal.returns
returns g c = λ s m.
    c.session.ensures s.sessions (λ k. ephemerals k s.nodes) m.sessions
    ∙ ap (λ (z : ℤ). option_map live_of (session_at z s.sessions)) (to_z-of_z w64 c.args.session c.ranges.session)
