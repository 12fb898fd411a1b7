use Rattle.tree_state.proofs.WatchSets.{watch_out}
use Rattle.tree_state.proofs.watchers.Watchers.remove.Goals as goal

pub returns : goal.returns
returns c = λ a ws p w is. watch_out c.args.self.now c.remove_path.new.self c.remove_connection.new.self c.args.path.now c.args.connection a ws p c.remove_path.ensures c.remove_connection.ensures w is
