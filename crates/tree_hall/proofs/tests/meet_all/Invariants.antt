use Rattle.tree_hall.specs.Passes.{IsPassOf}
use Rattle.tree_hall.proofs.tests.meet_all.Given as goal

abbrev pub invariant-loop-other : goal.invariant-loop-other
invariant-loop-other l = IsPassOf l.hall.table.shared.table_id l.pass
