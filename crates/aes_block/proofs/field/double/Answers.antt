use Rattle.aes_block.proofs.Bytes.{double_at}
use Rattle.aes_block.proofs.field.double.Goals as goal

pub returns : goal.returns
returns c = double_at c.args.byte c.ranges.byte.fits
