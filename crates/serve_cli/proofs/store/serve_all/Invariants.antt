use Rattle.tree_hall.specs.Passes.{IsPassOf}
use Rattle.serve_cli.specs.Serving.{Taking}
use Rattle.serve_cli.proofs.store.serve_all.Given as goal

-- so many connections are served
abbrev pub invariant-loop : goal.invariant-loop
invariant-loop g l = Taking (g.H.Host.told l.initial.host) (g.H.Host.told l.host) l.count × IsPassOf l.hall.value.table.shared.table_id l.pass
