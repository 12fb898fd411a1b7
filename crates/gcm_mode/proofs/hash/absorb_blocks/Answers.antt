use Rattle.std.proofs.Common.{◌≡◌, ◌/◌, length, ap, ◌∙◌, arith}
use Rattle.std.specs.Int.{w128, from_be_bytes}
use Rattle.gcm_mode.proofs.Hashing.{none_absorbed, one_absorbed}
use Rattle.gcm_mode.proofs.hash.absorb_blocks.Goals as goal

pub loop-n-init : goal.loop-n-init
loop-n-init c = none_absorbed c.args.hash_key.now c.args.start c.args.text.now

pub loop-n-preserved : goal.loop-n-preserved
loop-n-preserved c =
    one_absorbed c.args.hash_key.now c.args.start c.loop-n.hash c.from_be_bytes.result c.times-hash.result c.loop-n.n c.args.text.now c.loop-n.invariant
    (c.from_be_bytes.ensures ∙ ap (from_be_bytes w128) c.padded_block.ensures) c.times-hash.ensures

pub returns : goal.returns
returns c =
    let done : c.loop-n.n ≡ length c.args.text.now / 16 = omega arith in
    rw done at c.loop-n.invariant
