use Rattle.aes_block.proofs.Division.{division}
use Rattle.aes_block.proofs.remainder_is_remainder.Goals as goal

pub returns : goal.returns
returns c = division
