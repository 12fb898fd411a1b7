use Rattle.std.proofs.Common.{◌∙◌, arith}
use Rattle.replay_cli.proofs.WorkloadLemmas.{greeting_is, more_greetings, no_greetings}
use Rattle.replay_cli.proofs.workload.push_greetings.Goals as goal

pub loop-connection-init : goal.loop-connection-init
loop-connection-init c = (omega arith, no_greetings _)

pub loop-connection-preserved : goal.loop-connection-preserved
loop-connection-preserved c = (
  omega (arith, c.loop-connection-test.true),
  more_greetings _ _ _ _ _ c.loop-connection.invariant.1 (c.in_ok-bytes.ensures ∙ greeting_is) c.in_ok-push.ensures.items,
)
