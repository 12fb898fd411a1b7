use Rattle.std.proofs.Common.{◌≡◌, refl}
use Rattle.tree_state.proofs.WatchSets.{none_lose, leaving_connections, next_connection_left, all_lost}
use Rattle.tree_state.proofs.watchers.Watchers.lose.Goals as goal

pub returns-in_default : goal.returns-in_default
returns-in_default c = λ a ws w. none_lose c.args.self.now _ c.args.connection a ws c.in_default.ensures.value c.in_default.ensures.unchanged refl w

pub loop-path-init : goal.loop-path-init
loop-path-init c = leaving_connections c.args.connection _ _

pub loop-path-preserved : goal.loop-path-preserved
loop-path-preserved c =
    next_connection_left c.args.connection _ _ _ c.loop-path.self _ c.in-Some-path.path.now _ _ c.in-Some-path.ensures.steps c.loop-path.invariant c.deref.ensures c.remove_connection.ensures

pub returns : goal.returns
returns c = λ a ws w.
    let all : c.into_iter-path-iterator.result ≡ c.in-Some.paths.keys = c.into_iter-path-iterator.ensures.into_iter_gives.0 in
    all_lost c.args.self.now _ c.loop-path.self c.args.connection c.into_iter-path-iterator.result c.loop-path.path-iterator c.in-Some.paths a ws
    c.in-Some.ensures.value c.in-Some.ensures.updates refl all c.in-None.ensures.steps.0 c.loop-path.invariant w
