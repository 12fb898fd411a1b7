use Rattle.tree_state.specs.OneWatch.{LeavesConnections}
use Rattle.tree_state.proofs.watchers.Watchers.lose.Given as goal

abbrev pub invariant-loop-path : goal.invariant-loop-path
invariant-loop-path l = LeavesConnections l.connection l.initial.path-iterator l.initial.self l.path-iterator l.self
