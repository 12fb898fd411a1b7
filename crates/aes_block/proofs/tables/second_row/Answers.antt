use Rattle.std.proofs.Common.{refl}
use Rattle.aes_block.proofs.Columns.{second_at}
use Rattle.aes_block.proofs.tables.second_row.Goals as goal

pub returns : goal.returns
returns c = second_at c.args.byte _ refl c.ranges.byte.fits
