use Rattle.std.proofs.Common.{rules}
use Rattle.tree_state.proofs.Unwatching.{forget_next, all_forgotten}
use Rattle.tree_state.proofs.noticing.forget.Goals as goal

pub loop-watch-init : goal.loop-watch-init
loop-watch-init c = λ start h. h

pub loop-watch-preserved : goal.loop-watch-preserved
loop-watch-preserved c = λ start h. forget_next _ start _ _ _ _ c.in-Some.watch c.in-Some.ensures.items c.unwatch.ensures (c.loop-watch.invariant start h)

pub returns : goal.returns
returns c = λ start h. all_forgotten _ start _ _ (search rules) (c.loop-watch.invariant start h)
