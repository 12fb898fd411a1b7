use Rattle.tree_state.specs.OneWatch.{LeavesPaths}
use Rattle.tree_state.proofs.watchers.Watchers.fire.Given as goal

abbrev pub invariant-loop-connection : goal.invariant-loop-connection
invariant-loop-connection l = LeavesPaths l.path l.initial.connection-iterator l.initial.self l.connection-iterator l.self
