use Rattle.aes_block.proofs.Inverse.{inverse_is_inverse}
use Rattle.aes_block.proofs.inverse_is_inverse.Goals as goal

pub returns : goal.returns
returns c = inverse_is_inverse
