use Rattle.std.proofs.Common.{◌++◌}
use Rattle.aes_block.proofs.state.middle_round.Goals as goal

pub returns : goal.returns
returns c = (λ i. c.column.ensures i ++ c.column-2.ensures i ++ c.column-3.ensures i ++ c.column-4.ensures i)
