use Rattle.std.proofs.Common.{◌≡◌, ◌++◌, pos, filter}
use Rattle.std.specs.Option.{option_copied}
use Rattle.zk_path.specs.Paths.{IsTextOf}
use Rattle.tree_state.specs.Changes.{events_to, is_not_in}
use Rattle.tree_state.specs.Nodes.{Path}
use Rattle.tree_state.specs.Watches.{members}
use Rattle.tree_state.proofs.events.tell_others.Given as goal

abbrev pub invariant-loop-connection : goal.invariant-loop-connection
invariant-loop-connection l = (p : Path) → IsTextOf l.path p
    → l.outputs.items ++ events_to (pos 2) p (filter (is_not_in (members (option_copied l.told))) l.connection-iterator)
    ≡ l.fn.outputs.items ++ events_to (pos 2) p (filter (is_not_in (members (option_copied l.told))) (members (option_copied l.to)))
