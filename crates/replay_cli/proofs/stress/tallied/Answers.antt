use Rattle.std.proofs.Common.{◌+◌, arith}
use Rattle.store_side.specs.Follows.{IsAdmitted}
use Rattle.replay_cli.proofs.StressLemmas.{all_tallied, no_tally, one_tally}
use Rattle.replay_cli.proofs.stress.tallied.Goals as goal

pub loop-number-init : goal.loop-number-init
loop-number-init g c = (omega arith, λ keys m stands. no_tally m _ c.new-tally.ensures)

pub loop-number-preserved : goal.loop-number-preserved
loop-number-preserved g c = (
  omega (arith, c.loop-number-test.true),
  λ keys m stands.
      let inside : IsAdmitted m.past (c.loop-number.number + 1) = record { from = omega arith; below = omega (arith, c.loop-number-test.true, c.count-count.ensures keys 0 m stands) } in
      one_tally m _ _ _ _ (c.loop-number.invariant.1 keys m stands) (c.received.ensures keys 0 m stands inside) c.count_received-tally.ensures,
)

pub returns : goal.returns
returns g c = λ keys m stands. all_tallied m c.loop-number.number c.count-count.result _ (c.loop-number.invariant.1 keys m stands) c.loop-number.invariant.0 c.loop-number-test.false (c.count-count.ensures keys 0 m stands)
