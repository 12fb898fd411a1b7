use Rattle.std.proofs.Common.{◌≡◌, ◌<◌, ◌^◌, rules, arith}
use Rattle.std.proofs.lemmas.Nat.{xor_lt}
use Rattle.gcm_mode.proofs.Product.{more_by, none_yet, low_whole}
use Rattle.gcm_mode.proofs.field.low_times.Goals as goal

pub loop-i-init : goal.loop-i-init
loop-i-init c = record { fits = search rules; so_far = none_yet c.args.first c.args.second }

pub loop-i-preserved : goal.loop-i-preserved
loop-i-preserved c =
    let moved_fits : c.times_x-moved.result < 2 ^ 128 = search rules in
    let part_fits : c.selected.result < 2 ^ 128 = search rules in
    record {
      fits = xor_lt 128 c.times_x-moved.result c.selected.result moved_fits part_fits;
      so_far = more_by c.args.first c.args.second c.loop-i.product c.times_x-moved.result c.loop-i.i c.selected.result c.selected.ensures c.loop-i.invariant.so_far c.times_x-moved.ensures;
    }

pub returns : goal.returns
returns c =
    let done : c.loop-i.i ≡ c.args.count = omega arith in
    low_whole c.args.count c.args.first c.args.second c.loop-i.product c.loop-i.invariant.fits (rw done at c.loop-i.invariant.so_far)
