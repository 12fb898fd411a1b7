use Rattle.tree_server.proofs.FreshServers.{server_fresh}
use Rattle.tree_server.proofs.server.TreeServer+N+Count.forgetting.Goals as goal

pub returns : goal.returns
returns g c = λ naming named.
    server_fresh _ _ _ _ _ _ naming c.args.password_key _ (c.in_ok-new.ensures naming named c.new.ensures) (c.new-3.ensures naming c.args.password_key _)
