use Rattle.std.proofs.Common.{◌≡◌, refl}
use Rattle.tree_state.proofs.WatchSets.{none_fire, leaving_paths, next_path_left, all_fired}
use Rattle.tree_state.proofs.watchers.Watchers.fire.Goals as goal

pub returns-in_default : goal.returns-in_default
returns-in_default c = λ a ws p w is. none_fire c.args.self.now _ c.args.path.now a ws p c.in_default.ensures.value c.in_default.ensures.unchanged w is refl

pub loop-connection-init : goal.loop-connection-init
loop-connection-init c = leaving_paths c.args.path.now _ _

pub loop-connection-preserved : goal.loop-connection-preserved
loop-connection-preserved c =
    next_path_left c.args.path.now _ _ _ c.loop-connection.self _ c.in-Some-connection.connection.now _ c.in-Some-connection.ensures.steps c.loop-connection.invariant c.remove_path.ensures

pub returns : goal.returns
returns c = λ a ws p w is.
    let all : c.into_iter-connection-iterator.result ≡ c.in-Some.connections.keys = c.into_iter-connection-iterator.ensures.into_iter_gives.0 in
    all_fired c.args.self.now _ c.loop-connection.self c.args.path.now c.into_iter-connection-iterator.result c.loop-connection.connection-iterator c.in-Some.connections a ws p
    c.in-Some.ensures.value c.in-Some.ensures.updates refl all c.in-None.ensures.steps.0 c.loop-connection.invariant w is
