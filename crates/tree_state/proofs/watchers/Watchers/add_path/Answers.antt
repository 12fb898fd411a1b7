use Rattle.std.proofs.Common.{◌∙◌, Some, nat_cmp, ap, refl, subst}
use Rattle.std.specs.BTreeMap.{Updates}
use Rattle.tree_state.proofs.WatchMaps.{path_in, first_path_in, on_err, seen_paths, seen_entries}
use Rattle.tree_state.proofs.watchers.Watchers.add_path.Goals as goal

pub returns-in_err-insert-clause-err : goal.returns-in_err-insert-clause-err
returns-in_err-insert-clause-err c =
    on_err c.from_residual-in_err-insert.result _
    (seen_paths c.args.self.now _ c.args.connection c.in-Some.paths.now c.insert.new.self refl c.in-Some.ensures.value (c.get_mut.follows.holds _) c.in_err-insert.ensures.err)

pub returns-in-Some-clause-ok : goal.returns-in-Some-clause-ok
returns-in-Some-clause-ok c =
    path_in c.args.self.now _ c.args.path.now c.args.connection c.in-Some.paths.now c.insert.new.self c.in_ok-text.text c.in_ok-text.ensures.ok refl c.in-Some.ensures.value
    (c.get_mut.follows.holds _) c.in_ok-insert.ensures.updates

pub returns-in_err-insert-3-clause-err : goal.returns-in_err-insert-3-clause-err
returns-in_err-insert-3-clause-err c = on_err c.from_residual-in_err-insert-3.result _ (seen_entries c.args.self.now _ refl (c.in_err-insert-3.ensures.err ∙ ap (λ m. m.entries) c.get_mut.follows.holds-at-none))

pub returns-clause-ok : goal.returns-clause-ok
returns-clause-ok c =
    first_path_in c.args.self.now (record { by_path = c.args.self.now.by_path; by_connection = c.insert-3.new.self }) c.args.path.now c.args.connection c.new-paths.result c.insert-2.new.self c.in_ok-text.text c.in_ok-text.ensures.ok refl c.in_default.ensures.value
    c.new-paths.ensures.empty
    (subst (λ m. Updates nat_cmp m c.insert-3.new.self c.args.connection (Some c.insert-2.new.self)) c.get_mut.follows.holds-at-none c.in_ok-insert-3.ensures.updates) c.in_ok-insert-2.ensures.updates
