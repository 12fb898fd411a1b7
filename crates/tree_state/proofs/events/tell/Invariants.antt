use Rattle.std.proofs.Common.{◌≡◌, ◌++◌}
use Rattle.std.specs.Option.{option_copied}
use Rattle.zk_path.specs.Paths.{IsTextOf}
use Rattle.tree_state.specs.Changes.{events_to}
use Rattle.tree_state.specs.Nodes.{Path}
use Rattle.tree_state.specs.Watches.{members, number_of}
use Rattle.tree_state.proofs.events.tell.Given as goal

abbrev pub invariant-loop-connection : goal.invariant-loop-connection
invariant-loop-connection l = (p : Path) → IsTextOf l.path p
    → l.outputs.items ++ events_to (number_of l.kind) p l.connection-iterator ≡ l.fn.outputs.items ++ events_to (number_of l.kind) p (members (option_copied l.to))
