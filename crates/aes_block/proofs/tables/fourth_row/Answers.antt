use Rattle.std.proofs.Common.{refl}
use Rattle.aes_block.proofs.Columns.{fourth_at}
use Rattle.aes_block.proofs.tables.fourth_row.Goals as goal

pub returns : goal.returns
returns c = fourth_at c.args.byte _ refl c.ranges.byte.fits
