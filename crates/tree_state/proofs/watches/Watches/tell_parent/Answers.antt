use Rattle.tree_state.specs.State.{on_children}
use Rattle.tree_state.proofs.AllWatches.{parent_told}
use Rattle.tree_state.proofs.watches.Watches.tell_parent.Goals as goal

pub returns : goal.returns
returns c = λ ws p keeps is. parent_told _ _ p ws _ (c.of-watchers.ensures on_children ws p keeps.children is) (c.in_ok-tell.ensures p is)
