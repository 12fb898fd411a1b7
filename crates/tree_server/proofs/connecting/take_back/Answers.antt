use Rattle.tree_server.proofs.connecting.take_back.Goals as goal
use Rattle.tree_server.proofs.Replaced.{took_other, took_none}

pub returns-in_default : goal.returns-in_default
returns-in_default c = took_none _ c.args.next _ _ c.in_default.is c.remove.ensures

pub returns-then-ne : goal.returns-then-ne
returns-then-ne c = took_other _ c.in-Some.was c.args.next _ _ _ c.in-Some.is c.ne.ensures c.if-ne.true c.remove-then-ne.ensures
