use Rattle.std.proofs.Common.{sym, ap}
use Rattle.tree_server.specs.Connections.{ending_of}
use Rattle.tree_server.proofs.lines.Line.ending.Goals as goal

pub returns-in-Open : goal.returns-in-Open
unfolding ending_of
returns-in-Open c = sym (ap ending_of c.in-Open.is)

pub returns-in-Over : goal.returns-in-Over
unfolding ending_of
returns-in-Over c = sym (ap ending_of c.in-Over.is)
