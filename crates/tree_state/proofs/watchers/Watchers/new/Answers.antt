use Rattle.tree_state.proofs.WatchSets.{none_watched}
use Rattle.tree_state.proofs.watchers.Watchers.new.Goals as goal

pub returns : goal.returns
returns c = λ a. none_watched _ a c.new.ensures.empty c.new-2.ensures.empty
