use Rattle.std.proofs.Common.{◌≡◌, ◌++◌, replicate}
use Rattle.replay_cli.specs.declared.script.Event.TheVariants.{Open}
use Rattle.replay_cli.proofs.workload.push_opens.Given as goal

abbrev pub invariant-loop : goal.invariant-loop
invariant-loop l = l.events.items ≡ l.fn.events.items ++ replicate l.counter Open
