use Rattle.std.proofs.Common.{◌-◌, ◌≡◌, ◌≤◌, ◌++◌}
use Rattle.replay_cli.specs.Workload.{greetings}
use Rattle.replay_cli.proofs.workload.push_greetings.Given as goal

abbrev pub invariant-loop-connection : goal.invariant-loop-connection
invariant-loop-connection l = (l.connection ≤ l.sessions) × (l.events.items ≡ l.fn.events.items ++ greetings l.connection)

abbrev pub decreases-loop-connection : goal.decreases-loop-connection
decreases-loop-connection l = l.sessions - l.connection
