use Rattle.std.proofs.Common.{refl}
use Rattle.tree_state.proofs.WatchMaps.{connection_out, last_out, no_connection_out}
use Rattle.tree_state.proofs.watchers.Watchers.remove_connection.Goals as goal

pub returns-in_default : goal.returns-in_default
returns-in_default c = no_connection_out c.args.self.now _ c.args.path.now c.args.connection refl c.in_default.ensures.value c.get_mut.follows.holds-at-none

pub returns-then-is_empty : goal.returns-then-is_empty
returns-then-is_empty c =
    last_out c.args.self.now (record { by_path = c.get_mut.follows.lender c.remove.new.self; by_connection = c.args.self.now.by_connection }) _ c.args.path.now c.args.connection c.in-Some.connections.now c.remove.new.self
    refl c.in-Some.ensures.value (c.get_mut.follows.holds _) c.remove.ensures.updates c.remove.ensures.keys refl (c.is_empty.ensures.0 c.if-is_empty.true) c.remove-then-is_empty.ensures.updates

pub returns-else-is_empty : goal.returns-else-is_empty
returns-else-is_empty c =
    connection_out c.args.self.now _ c.args.path.now c.args.connection c.in-Some.connections.now c.remove.new.self refl c.in-Some.ensures.value (c.get_mut.follows.holds _)
    c.remove.ensures.updates c.remove.ensures.keys
