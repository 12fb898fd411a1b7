use Rattle.tree_state.proofs.OneCommand.{one_command}
use Rattle.tree_state.proofs.one_command.Goals as goal

pub returns : goal.returns
returns c = one_command
