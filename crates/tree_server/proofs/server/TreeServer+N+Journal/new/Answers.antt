use Rattle.tree_server.proofs.FreshServers.{server_fresh}
use Rattle.tree_server.proofs.server.TreeServer+N+Journal.new.Goals as goal

pub returns : goal.returns
returns g c = λ naming named.
    server_fresh _ _ _ _ _ _ naming c.args.password_key c.args.limit (rw c.from.ensures at c.in_ok-new.ensures naming named c.new-journal.ensures) (c.new-2.ensures naming c.args.password_key c.args.limit)
