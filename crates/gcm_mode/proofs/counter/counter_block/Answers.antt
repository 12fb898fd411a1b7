use Rattle.std.proofs.Common.{◌≡◌, length, rules}
use Rattle.gcm_mode.proofs.Counting.{placed}
use Rattle.gcm_mode.proofs.counter.counter_block.Goals as goal

pub returns : goal.returns
returns c =
    let len : length c.args.iv.now ≡ 12 = search rules in
    rw (c.copy_from_slice.ensures.after, c.copy_from_slice-2.ensures.after, c.to_be_bytes.ensures) (placed c.args.iv.now _ len)
