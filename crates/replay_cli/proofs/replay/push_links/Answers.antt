use Rattle.std.proofs.Common.{arith}
use Rattle.replay_cli.proofs.Links.{no_links, links_on, all_links}
use Rattle.replay_cli.proofs.replay.push_links.Goals as goal

pub loop-number-init : goal.loop-number-init
loop-number-init g c = (omega arith, λ keys m stands. no_links m _)

pub loop-number-preserved : goal.loop-number-preserved
loop-number-preserved g c = (
  omega (arith, c.loop-number-test.true),
  λ keys m stands.
      links_on m _ _ _ c.loop-number.number (c.loop-number.invariant.1 keys m stands)
      (c.in_ok-push_link.ensures keys m stands (record { from = omega arith; below = omega (arith, c.loop-number-test.true, c.count-count.ensures keys 0 m stands) })),
)

pub returns : goal.returns
returns g c = λ keys m stands. all_links m _ _ c.loop-number.number c.count-count.result (c.loop-number.invariant.1 keys m stands) c.loop-number.invariant.0 c.loop-number-test.false (c.count-count.ensures keys 0 m stands)
