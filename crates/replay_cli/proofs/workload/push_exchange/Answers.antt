use Rattle.std.proofs.Common.{rules}
use Rattle.replay_cli.proofs.WorkloadLemmas.{exchange_is, four_more}
use Rattle.replay_cli.proofs.workload.push_exchange.Goals as goal

pub returns : goal.returns
returns c = exchange_is _ _ _ _ _ _ (search rules) (four_more _ _ _ _ _ _ _ _ _ c.in_ok-push.ensures.items c.in_ok-push-2.ensures.items c.in_ok-push-3.ensures.items c.in_ok-push-4.ensures.items)
