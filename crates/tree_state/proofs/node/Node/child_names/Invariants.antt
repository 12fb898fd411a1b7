use Rattle.std.proofs.Common.{◌≡◌, map, ◌++◌}
use Rattle.std.specs.String.{string_bytes}
use Rattle.tree_state.proofs.node.Node.child_names.Given as goal

abbrev pub invariant-loop-name : goal.invariant-loop-name
invariant-loop-name l = l.names.items ++ map string_bytes l.name-iterator ≡ map string_bytes l.self.names.keys
