use Rattle.tree_state.proofs.WatchSets.{has_so, has_none}
use Rattle.tree_state.proofs.watchers.Watchers.has.Goals as goal

pub returns-in-Some : goal.returns-in-Some
returns-in-Some c = has_so c.args.self.now c.args.path.now c.args.connection c.in-Some.connections.now _ c.in-Some.ensures.value c.contains.ensures

pub returns-in-None : goal.returns-in-None
returns-in-None c = has_none c.args.self.now c.args.path.now c.args.connection c.in-None.ensures.value
