use Rattle.std.proofs.Common.{List}
use Rattle.tree_state.specs.State.{Watch}
use Rattle.tree_state.specs.Noticing.{CanForget}
use Rattle.tree_state.proofs.noticing.forget.Given as goal

abbrev pub invariant-loop-watch : goal.invariant-loop-watch
invariant-loop-watch l = (start : List Watch) → CanForget l.asker.connection start l.fn.watches l.fn.added.items → CanForget l.asker.connection start l.watches l.rest.items

abbrev pub decreases-loop-watch : goal.decreases-loop-watch
decreases-loop-watch l = goal.left-loop-watch l
