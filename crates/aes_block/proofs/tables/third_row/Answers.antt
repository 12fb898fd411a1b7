use Rattle.std.proofs.Common.{refl}
use Rattle.aes_block.proofs.Columns.{third_at}
use Rattle.aes_block.proofs.tables.third_row.Goals as goal

pub returns : goal.returns
returns c = third_at c.args.byte _ refl c.ranges.byte.fits
