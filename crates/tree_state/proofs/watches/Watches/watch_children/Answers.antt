use Rattle.std.proofs.lemmas.Result.{IfOk-weaker, on_ok_weaker, on_err_weaker}
use Rattle.tree_state.specs.State.{on_children}
use Rattle.tree_state.proofs.AllWatches.{children_watched, children_kept}
use Rattle.tree_state.proofs.watches.Watches.watch_children.Goals as goal

pub returns-clause-ok : goal.returns-clause-ok
returns-clause-ok c =
    on_ok_weaker c.add.result (λ added. λ ws p keeps is. children_watched c.args.self.now c.add.new.self p c.args.connection ws (added on_children ws p keeps.children keeps.ascend is) keeps) c.add.ensures.ok

pub returns-clause-new : goal.returns-clause-new
returns-clause-new c = IfOk-weaker c.add.result _ _ (λ b new. λ ws p keeps is. new on_children ws p keeps.children is) c.add.ensures.new

pub returns-clause-err : goal.returns-clause-err
returns-clause-err c = on_err_weaker c.add.result (λ kept. λ ws keeps. children_kept c.args.self.now c.add.new.self ws (kept on_children ws keeps.children) keeps) c.add.ensures.err
