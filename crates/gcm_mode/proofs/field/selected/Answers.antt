use Rattle.std.proofs.Common.{◌<◌, ◌^◌, rules}
use Rattle.gcm_mode.proofs.Product.{masked}
use Rattle.gcm_mode.proofs.field.selected.Goals as goal

pub returns : goal.returns
returns c =
    let fits : c.wrapping_neg.result < 2 ^ 128 = search rules in
    masked c.args.bit c.args.value c.wrapping_neg.result c.requires c.ranges.value.fits fits c.wrapping_neg.ensures
