use Rattle.tree_hall.specs.Passes.{IsPassOf}
use Rattle.tree_hall.proofs.tests.tick_on.Given as goal

abbrev pub invariant-loop-now : goal.invariant-loop-now
invariant-loop-now g l = IsPassOf l.hall.table.shared.table_id l.pass
