use Rattle.std.proofs.Common.{refl}
use Rattle.aes_block.proofs.Columns.{first_at}
use Rattle.aes_block.proofs.tables.first_row.Goals as goal

pub returns : goal.returns
returns c = first_at c.args.byte _ refl c.ranges.byte.fits
