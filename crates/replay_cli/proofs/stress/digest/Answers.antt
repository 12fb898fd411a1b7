use Rattle.std.proofs.Common.{◌∙◌, ◌+◌, List, ℕ, arith, subst}
use Rattle.sha2.specs.Hashers.{Holds256}
use Rattle.store_side.specs.Follows.{IsAdmitted}
use Rattle.replay_cli.proofs.StressLemmas.{all_received, more_received}
use Rattle.replay_cli.specs.Summary.{received_by}
use Rattle.replay_cli.proofs.stress.digest.Goals as goal

pub loop-number-init : goal.loop-number-init
unfolding received_by
loop-number-init g c = (omega arith, λ keys m stands. c.new-hasher.ensures)

pub loop-number-preserved : goal.loop-number-preserved
loop-number-preserved g c = (
  omega (arith, c.loop-number-test.true),
  λ keys m stands.
      let inside : IsAdmitted m.past (c.loop-number.number + 1) = record { from = omega arith; below = omega (arith, c.loop-number-test.true, c.count-count.ensures keys 0 m stands) } in
      subst (λ (l : List ℕ). Holds256 c.update.new.self l) (more_received m c.loop-number.number _ (c.received.ensures keys 0 m stands inside)) (c.update.ensures _ (c.loop-number.invariant.1 keys m stands)),
)

pub returns : goal.returns
returns g c = λ keys m stands.
    c.finalize.ensures _ (c.loop-number.invariant.1 keys m stands)
    ∙ all_received m c.loop-number.number c.count-count.result c.loop-number.invariant.0 c.loop-number-test.false (c.count-count.ensures keys 0 m stands)
