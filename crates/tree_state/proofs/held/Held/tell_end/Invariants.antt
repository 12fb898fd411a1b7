use Rattle.std.proofs.Common.{pos, ℤ, ◌≤ℤ◌, ◌≡◌, Some, drop}
use Rattle.tree_state.specs.Nodes.{ephemerals}
use Rattle.tree_state.specs.State.{State, Session, session_at}
use Rattle.tree_state.specs.Trees.{Means}
use Rattle.tree_state.proofs.GoneEvents.{AreTelling}
use Rattle.tree_state.proofs.held.Held.tell_end.Given as goal

abbrev pub invariant-loop-path : goal.invariant-loop-path
invariant-loop-path l = (s : State) (k : ℤ) (x : Session) → Means l.fn.self s → l.fn.session ≡ k → pos 1 ≤ℤ k → session_at k s.sessions ≡ Some x
    → AreTelling s.watches (ephemerals k s.nodes) (drop l.path-index l.path-items) l.parents.keys l.fn.outputs.items l.outputs.items
