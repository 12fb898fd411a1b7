use Rattle.std.proofs.Common.{◌≡◌, length, rules, arith, refl}
use Rattle.gcm_mode.specs.Gcm.{inc32, first_counter}
use Rattle.gcm_mode.specs.Ghash.{block_count}
use Rattle.gcm_mode.proofs.Counting.{none_covered, block_covered, all_covered}
use Rattle.gcm_mode.proofs.counter.cover.Goals as goal

pub loop-n-init : goal.loop-n-init
loop-n-init c = none_covered c.args.key.now (inc32 (first_counter c.args.iv.now)) c.args.text.now

pub loop-n-preserved : goal.loop-n-preserved
loop-n-preserved c =
    let len : length c.args.iv.now ≡ 12 = search rules in
    block_covered c.loop-n.text c.args.key.now c.args.iv.now c.args.text.now c.padded_block.result c.counter_block.result c.encrypt-mask.result c.xor-block.result c.copy_from_slice.new.self c.loop-n.n _ c.min-size.result _ len (omega arith)
    c.loop-n.invariant c.padded_block.ensures c.min-size.ensures (omega arith) c.counter_block.ensures c.encrypt-mask.ensures c.xor-block.ensures c.copy_from_slice.ensures.after refl (omega arith)

pub returns : goal.returns
returns c =
    let done : c.loop-n.n ≡ block_count c.args.text.now = omega arith in
    all_covered c.loop-n.text c.args.key.now c.args.iv.now c.args.text.now c.loop-n.n done c.loop-n.invariant
