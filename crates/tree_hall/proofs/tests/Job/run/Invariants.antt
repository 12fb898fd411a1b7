use Rattle.tree_hall.specs.Passes.{IsPassOf}
use Rattle.tree_hall.proofs.tests.Job.run.Given as goal

abbrev pub invariant-loop-now : goal.invariant-loop-now
invariant-loop-now g l = IsPassOf l.hall.value.table.shared.table_id l.pass
