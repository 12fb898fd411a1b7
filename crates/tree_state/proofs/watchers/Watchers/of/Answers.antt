use Rattle.tree_state.proofs.WatchSets.{told_of}
use Rattle.tree_state.proofs.watchers.Watchers.of.Goals as goal

pub returns : goal.returns
returns c = λ a ws p w is. told_of c.args.self.now c.args.path.now _ a ws p c.get.ensures.value w is
