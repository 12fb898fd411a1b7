use Rattle.std.proofs.Common.{refl}
use Rattle.tree_state.proofs.WatchMaps.{path_out, no_path_out}
use Rattle.tree_state.proofs.watchers.Watchers.remove_path.Goals as goal

pub returns-in-Some : goal.returns-in-Some
returns-in-Some c =
    path_out c.args.self.now _ c.args.path.now c.args.connection c.in-Some.paths.now c.remove.new.self refl c.in-Some.ensures.value (c.get_mut.follows.holds _) c.remove.ensures.updates

pub returns-in_default : goal.returns-in_default
returns-in_default c = no_path_out c.args.self.now _ c.args.path.now c.args.connection refl c.in_default.ensures.value c.get_mut.follows.holds-at-none
