use Rattle.tree_state.specs.State.{on_children}
use Rattle.tree_state.proofs.AllWatches.{children_forgotten}
use Rattle.tree_state.proofs.watches.Watches.forget_children.Goals as goal

pub returns : goal.returns
returns c = λ ws p keeps is. children_forgotten c.args.self.now c.remove.new.self p c.args.connection ws (c.remove.ensures on_children ws p keeps.children is) keeps
