use Rattle.tree_state.proofs.WatchSets.{copied}
use Rattle.tree_state.proofs.watchers.Watchers.copy.Goals as goal

pub returns : goal.returns
returns c = copied c.args.self.now _ c.in_ok-clone.ensures.cases c.in_ok-clone-2.ensures.cases
