use Rattle.std.proofs.Common.{◌∙◌, Some, string_cmp, ap, refl, subst}
use Rattle.std.specs.BTreeMap.{Updates}
use Rattle.tree_state.proofs.WatchMaps.{connection_in, first_connection_in, on_err, seen_connections, seen_entries}
use Rattle.tree_state.proofs.watchers.Watchers.add_connection.Goals as goal

pub returns-in_err-insert-clause-err : goal.returns-in_err-insert-clause-err
returns-in_err-insert-clause-err c =
    on_err c.from_residual.result _
    (seen_connections c.args.self.now _ c.args.path.now c.in-Some.connections.now c.insert.new.self refl c.in-Some.ensures.value (c.get_mut.follows.holds _) c.in_err-insert.ensures.err)

pub returns-in-Some-clause-ok : goal.returns-in-Some-clause-ok
returns-in-Some-clause-ok c =
    connection_in c.args.self.now _ c.args.path.now c.args.connection c.in-Some.connections.now c.insert.new.self refl c.in-Some.ensures.value (c.get_mut.follows.holds _)
    c.in_ok-insert.ensures.keys

pub returns-in_err-insert-3-clause-err : goal.returns-in_err-insert-3-clause-err
returns-in_err-insert-3-clause-err c = on_err c.from_residual-in_err-insert-3.result _ (seen_entries c.args.self.now _ (c.in_err-insert-3.ensures.err ∙ ap (λ m. m.entries) c.get_mut.follows.holds-at-none) refl)

pub returns-clause-ok : goal.returns-clause-ok
returns-clause-ok c =
    first_connection_in c.args.self.now (record { by_path = c.insert-3.new.self; by_connection = c.args.self.now.by_connection }) c.args.path.now c.args.connection c.new-connections.result c.insert-2.new.self c.in_ok-to_string.field-0 c.in_ok-to_string.ensures.ok refl
    c.in_default.ensures.value c.new-connections.ensures.empty
    (subst (λ m. Updates string_cmp m c.insert-3.new.self c.in_ok-to_string.field-0 (Some c.insert-2.new.self)) c.get_mut.follows.holds-at-none c.in_ok-insert-3.ensures.updates) c.in_ok-insert-2.ensures.keys
