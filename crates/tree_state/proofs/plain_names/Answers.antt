use Rattle.tree_state.proofs.PlainNames.{plain_names}
use Rattle.tree_state.proofs.plain_names.Goals as goal

pub returns : goal.returns
returns c = plain_names
