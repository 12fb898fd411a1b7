use Rattle.std.specs.Prelude.{All}
use Rattle.zk_messages.specs.Short.{HasShortOpParts}
use Rattle.tree_state.proofs.tests.ops.Given as goal

abbrev pub invariant-loop-part : goal.invariant-loop-part
invariant-loop-part l = All HasShortOpParts l.ops.items
