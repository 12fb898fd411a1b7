use Rattle.tree_server.proofs.DueOrder.{added}
use Rattle.tree_server.proofs.dues.Dues.add.Goals as goal

pub returns-clause-ok : goal.returns-clause-ok
returns-clause-ok c = rw (← c.self.view_is) (added _ _ c.args.due c.in_ok-insert.ensures.updates.0)
