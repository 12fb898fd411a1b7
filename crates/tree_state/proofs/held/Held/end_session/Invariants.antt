use Rattle.std.proofs.Common.{◌≡◌, drop, Some}
use Rattle.tree_state.specs.State.{State, Session, session_at}
use Rattle.tree_state.specs.Trees.{Means, IsMoment}
use Rattle.tree_state.proofs.Ended.{AreLeaving}
use Rattle.tree_state.proofs.held.Held.end_session.Given as goal

abbrev pub invariant-loop-path : goal.invariant-loop-path
invariant-loop-path l = record {
  sessions : l.self.sessions ≡ l.initial.self.sessions;
  nodes : (s : State) (x : Session) → Means l.fn.self s → IsMoment s l.at → session_at l.at.session s.sessions ≡ Some x
      → AreLeaving l.at.zxid l.at.session s l.self.places l.self.watches (drop l.path-index l.path-items);
}
