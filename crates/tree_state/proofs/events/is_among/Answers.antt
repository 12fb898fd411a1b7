use Rattle.tree_state.proofs.Telling.{not_among, among}
use Rattle.tree_state.proofs.events.is_among.Goals as goal

pub returns-in_default : goal.returns-in_default
returns-in_default c = not_among c.args.connection c.args.connections c.in_default.is

pub returns : goal.returns
returns c = among c.args.connection c.contains.result c.args.connections c.in-Some.connections c.in-Some.is c.contains.ensures
