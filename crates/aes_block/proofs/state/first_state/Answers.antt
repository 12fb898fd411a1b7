use Rattle.std.proofs.Common.{◌++◌}
use Rattle.aes_block.proofs.state.first_state.Goals as goal

pub returns : goal.returns
returns c = (λ i. c.first_column.ensures i ++ c.first_column-2.ensures i ++ c.first_column-3.ensures i ++ c.first_column-4.ensures i)
