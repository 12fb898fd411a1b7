use Rattle.std.proofs.Common.{refl}
use Rattle.gcm_mode.proofs.Product.{moved_by}
use Rattle.gcm_mode.proofs.field.times_x.Goals as goal

pub returns : goal.returns
returns c = moved_by c.args.block _ c.selected.result c.ranges.block.fits refl c.selected.ensures
