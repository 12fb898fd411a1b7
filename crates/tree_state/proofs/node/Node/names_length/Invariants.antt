use Rattle.std.proofs.Common.{◌≡◌, ◌≤◌, ◌-◌, ◌^◌}
use Rattle.tree_state.proofs.Copied.{counted_with}
use Rattle.tree_state.proofs.node.Node.names_length.Given as goal

abbrev pub invariant-loop-name : goal.invariant-loop-name
invariant-loop-name l = (counted_with l.length l.name-iterator ≡ counted_with 0 l.self.names.keys) × (l.length ≤ 2 ^ 64 - 1)
