use Rattle.tree_server.proofs.connecting.leave.Goals as goal
use Rattle.tree_server.proofs.Replaced.{left_other}

pub returns-then-ne : goal.returns-then-ne
returns-then-ne c = left_other _ c.in-Some.was c.args.next _ _ _ c.in-Some.is c.ne.ensures c.if-ne.true c.remove.ensures
