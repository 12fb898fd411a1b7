use Rattle.tree_state.proofs.AllWatches.{all_lost}
use Rattle.tree_state.proofs.watches.Watches.lose.Goals as goal

pub returns : goal.returns
returns c = λ ws keeps. all_lost c.args.self.now c.lose.new.self c.lose-2.new.self c.args.connection ws c.lose.ensures c.lose-2.ensures keeps
