use Rattle.std.proofs.Common.{◌-◌, ◌≡◌, ◌≤◌, ◌*◌}
use Rattle.replay_cli.proofs.WorkloadLemmas.{IsDrawn, Stepped}
use Rattle.replay_cli.proofs.workload.push_steps.Given as goal

abbrev pub invariant-loop-step : goal.invariant-loop-step
invariant-loop-step l = (l.step ≤ l.steps) × IsDrawn l.seed (3 * l.step) l.generator × Stepped l.seed l.sessions l.step l.fn.events.items l.events.items

abbrev pub decreases-loop-step : goal.decreases-loop-step
decreases-loop-step l = l.steps - l.step
