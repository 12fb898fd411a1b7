use Rattle.tree_server.proofs.DueOrder.{removed}
use Rattle.tree_server.proofs.dues.Dues.remove.Goals as goal

pub returns : goal.returns
returns c = rw (← c.self.view_is) (removed _ _ c.args.due c.remove.ensures.updates.0)
