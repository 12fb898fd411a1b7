use Rattle.std.proofs.Common.{refl}
use Rattle.gcm_mode.proofs.Tables.{moved_by_eight}
use Rattle.gcm_mode.proofs.table.times_x8.Goals as goal

pub returns : goal.returns
returns c = moved_by_eight c.args.block _ _ c.ranges.block.fits refl refl
