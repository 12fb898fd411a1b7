use Rattle.std.proofs.Common.{◌≡◌, arith}
use Rattle.payload_seal.proofs.Places.{fill_first, fill_more, holds_filled}
use Rattle.payload_seal.proofs.keys.PayloadKeys.of_all.Goals as goal

pub loop-n-init : goal.loop-n-init
loop-n-init c = fill_first c.args.first c.args.later.now

pub loop-n-preserved : goal.loop-n-preserved
loop-n-preserved c = fill_more c.loop-n.places c.args.first c.args.later.now _ c.loop-n.n (omega arith) c.bytes_at.ensures c.loop-n.invariant

pub invariant_of-result : goal.invariant_of-result
invariant_of-result c =
    let done : c.loop-n.n ≡ c.args.count = omega arith in
    holds_filled c.loop-n.places _ c.args.count c.new.result (omega arith) (rw done at c.loop-n.invariant) c.new.ensures

pub returns : goal.returns
returns c =
    let done : c.loop-n.n ≡ c.args.count = omega arith in
    (rw done at c.loop-n.invariant).front
