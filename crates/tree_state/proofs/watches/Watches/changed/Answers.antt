use Rattle.tree_state.proofs.AllWatches.{data_fired}
use Rattle.tree_state.proofs.watches.Watches.changed.Goals as goal

pub returns : goal.returns
returns c = λ ws p keeps is. data_fired c.args.self.now c.fire.new.self c.args.path.now p ws c.fire.ensures is keeps
