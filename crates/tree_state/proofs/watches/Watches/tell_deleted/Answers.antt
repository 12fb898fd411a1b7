use Rattle.std.proofs.Common.{◌∙◌}
use Rattle.tree_state.proofs.AllWatches.{deletion_told, is_above}
use Rattle.tree_state.proofs.watches.Watches.tell_deleted.Goals as goal

pub returns-clause-events : goal.returns-clause-events
returns-clause-events c = λ ws p n keeps is.
    c.make_room.ensures.items
    ∙ deletion_told _ _ _ p n ws (c.in_ok-tell_end.ensures ws _ keeps is)
    (c.in_ok-tell_parent.ensures ws p keeps (is_above c.args.path.now _ n p is (c.parts.ensures.path n p is).0))
