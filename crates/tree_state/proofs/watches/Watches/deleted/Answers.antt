use Rattle.tree_state.proofs.AllWatches.{deleted_gone}
use Rattle.tree_state.proofs.watches.Watches.deleted.Goals as goal

pub returns : goal.returns
returns c = λ ws p n keeps is.
    deleted_gone c.args.self.now c.fire.new.self c.fire-2.new.self c.fire-3.new.self c.args.path.now _ n p ws c.fire.ensures c.fire-2.ensures c.fire-3.ensures is (c.parts.ensures.path n p is).0 keeps
