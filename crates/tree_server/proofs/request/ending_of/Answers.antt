use Rattle.tree_server.proofs.RequestEndings.{ends_close, ends_other}
use Rattle.tree_server.proofs.request.ending_of.Goals as goal

pub returns-in-Close : goal.returns-in-Close
returns-in-Close c = ends_close c.args.request.now c.in-Close.is

pub returns-in_default : goal.returns-in_default
returns-in_default c = ends_other c.args.request.now c.in_default.not-Close
