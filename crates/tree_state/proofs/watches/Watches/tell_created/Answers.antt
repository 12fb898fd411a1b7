use Rattle.std.proofs.Common.{◌∙◌}
use Rattle.tree_state.specs.State.{on_data}
use Rattle.tree_state.proofs.AllWatches.{creation_told, is_above}
use Rattle.tree_state.proofs.watches.Watches.tell_created.Goals as goal

pub returns-clause-events : goal.returns-clause-events
returns-clause-events c = λ ws p n keeps is.
    c.make_room.ensures.items
    ∙ creation_told _ _ _ p n ws _ (c.of-watchers.ensures on_data ws _ keeps.contents is) (c.in_ok-tell.ensures _ is)
    (c.in_ok-tell_parent.ensures ws p keeps (is_above c.args.path.now _ n p is (c.parts.ensures.path n p is).0))
