use Rattle.std.proofs.Common.{◌∙◌}
use Rattle.tree_state.specs.State.{on_data}
use Rattle.tree_state.proofs.AllWatches.{content_told}
use Rattle.tree_state.proofs.watches.Watches.tell_changed.Goals as goal

pub returns-clause-events : goal.returns-clause-events
returns-clause-events c = λ ws p keeps is. c.make_room.ensures.items ∙ content_told _ _ p ws _ (c.of-watchers.ensures on_data ws p keeps.contents is) (c.in_ok-tell.ensures p is)
