use Rattle.aes_block.proofs.Bytes.{sub_byte_at}
use Rattle.aes_block.proofs.sbox.substitute.Goals as goal

pub returns : goal.returns
returns c = sub_byte_at c.args.byte c.ranges.byte.fits
