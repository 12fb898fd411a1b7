use Rattle.tree_state.proofs.AllWatches.{created_gone}
use Rattle.tree_state.proofs.watches.Watches.created.Goals as goal

pub returns : goal.returns
returns c = λ ws p n keeps is.
    created_gone c.args.self.now c.fire.new.self c.fire-2.new.self c.args.path.now _ n p ws c.fire.ensures c.fire-2.ensures is (c.parts.ensures.path n p is).0 keeps
