use Rattle.std.proofs.Common.{All}
use Rattle.tree_hall.specs.Passes.{IsPassOf}
use Rattle.tree_hall.proofs.tests.split_all.Given as goal

abbrev pub invariant-loop : goal.invariant-loop
invariant-loop g l = IsPassOf l.hall.table.shared.table_id l.pass × All (IsPassOf l.hall.table.shared.table_id) l.passes.items
