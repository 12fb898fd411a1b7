use Rattle.replay_cli.proofs.WorkloadLemmas.{asks_checks, checked, two_ops}
use Rattle.replay_cli.proofs.workload.checked_change.Goals as goal

pub returns : goal.returns
returns c =
    asks_checks _ _ _ _ _ (checked _ _ c.in_ok-copy_of.ensures) c.in_ok-change.ensures (two_ops _ _ _ _ _ _ c.new-list.ensures.items c.in_ok-push.ensures.items c.in_ok-push-2.ensures.items c.of.ensures)
