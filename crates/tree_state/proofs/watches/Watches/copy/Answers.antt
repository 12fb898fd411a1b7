use Rattle.tree_state.proofs.AllWatches.{all_copied}
use Rattle.tree_state.proofs.watches.Watches.copy.Goals as goal

pub returns : goal.returns
returns c = all_copied c.args.self.now _ _ c.in_ok-copy.ensures c.in_ok-copy-2.ensures
