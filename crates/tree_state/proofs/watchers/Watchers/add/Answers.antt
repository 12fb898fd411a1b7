use Rattle.std.proofs.Common.{◌∙◌, ap, not, sym}
use Rattle.tree_state.proofs.WatchSets.{watch_there, watch_is_there, watch_in, watch_back}
use Rattle.tree_state.proofs.watchers.Watchers.add.Goals as goal

pub returns-then-has-clause-ok : goal.returns-then-has-clause-ok
returns-then-has-clause-ok c = λ a ws p w up is. watch_there c.args.self.now c.args.path.now c.args.connection a ws p c.has.result c.has.ensures c.if-has.true w is

pub returns-then-has-clause-new : goal.returns-then-has-clause-new
returns-then-has-clause-new c = λ a ws p w is.
    ap not (sym c.if-has.true ∙ watch_is_there c.args.self.now c.args.path.now c.args.connection a ws p c.has.result c.has.ensures w is)

pub returns-in-Ok-clause-ok : goal.returns-in-Ok-clause-ok
returns-in-Ok-clause-ok c = λ a ws p w up is.
    watch_in c.args.self.now c.add_path.new.self c.add_connection.new.self c.args.path.now c.args.connection a ws p c.has.result c.has.ensures c.if-has.false
    c.in_ok-add_path.ensures.ok c.in-Ok.ensures.ok w up is

pub returns-in-Ok-clause-new : goal.returns-in-Ok-clause-new
returns-in-Ok-clause-new c = λ a ws p w is.
    ap not (sym c.if-has.false ∙ watch_is_there c.args.self.now c.args.path.now c.args.connection a ws p c.has.result c.has.ensures w is)

pub returns-in-Err-clause-err : goal.returns-in-Err-clause-err
returns-in-Err-clause-err c =
    watch_back c.args.self.now c.add_path.new.self c.add_connection.new.self c.remove_path.new.self c.args.path.now c.args.connection c.has.result c.has.ensures c.if-has.false
    c.in_ok-add_path.ensures.ok c.in-Err.ensures.err c.remove_path.ensures
