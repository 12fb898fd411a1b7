use Rattle.tree_state.proofs.AllWatches.{no_watches}
use Rattle.tree_state.proofs.watches.Watches.new.Goals as goal

pub returns : goal.returns
returns c = no_watches c.new.result c.new-2.result c.new.ensures c.new-2.ensures
