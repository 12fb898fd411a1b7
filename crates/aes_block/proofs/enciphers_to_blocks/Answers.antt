use Rattle.aes_block.proofs.Fits.{enciphers_to_blocks}
use Rattle.aes_block.proofs.enciphers_to_blocks.Goals as goal

pub returns : goal.returns
returns c = enciphers_to_blocks
