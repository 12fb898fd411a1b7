use Rattle.tree_state.specs.State.{on_data, on_children}
use Rattle.tree_state.proofs.AllWatches.{end_told}
use Rattle.tree_state.proofs.watches.Watches.tell_end.Goals as goal

pub returns : goal.returns
returns c = λ ws p keeps is.
    end_told _ _ _ p ws _ _ (c.of-told.ensures on_data ws p keeps.contents is) (c.of.ensures on_children ws p keeps.children is) (c.in_ok-tell.ensures p is) (c.in_ok-tell_others.ensures p is)
