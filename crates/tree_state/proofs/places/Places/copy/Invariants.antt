use Rattle.tree_state.proofs.CopiedMaps.{IsCopiedUpTo}
use Rattle.tree_state.proofs.CopiedPlaces.{IsEntryCopy}
use Rattle.tree_state.proofs.places.Places.copy.Given as goal

abbrev pub invariant-loop-path : goal.invariant-loop-path
invariant-loop-path l = IsCopiedUpTo IsEntryCopy l.nodes.entries l.path-iterator l.self.nodes.entries
