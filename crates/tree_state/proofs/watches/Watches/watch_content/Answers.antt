use Rattle.std.proofs.lemmas.Result.{IfOk-weaker, on_ok_weaker, on_err_weaker}
use Rattle.tree_state.specs.State.{on_data}
use Rattle.tree_state.proofs.AllWatches.{data_watched, data_kept}
use Rattle.tree_state.proofs.watches.Watches.watch_content.Goals as goal

pub returns-clause-ok : goal.returns-clause-ok
returns-clause-ok c =
    on_ok_weaker c.add.result (λ added. λ ws p keeps is. data_watched c.args.self.now c.add.new.self p c.args.connection ws (added on_data ws p keeps.contents keeps.ascend is) keeps) c.add.ensures.ok

pub returns-clause-new : goal.returns-clause-new
returns-clause-new c = IfOk-weaker c.add.result _ _ (λ b new. λ ws p keeps is. new on_data ws p keeps.contents is) c.add.ensures.new

pub returns-clause-err : goal.returns-clause-err
returns-clause-err c = on_err_weaker c.add.result (λ kept. λ ws keeps. data_kept c.args.self.now c.add.new.self ws (kept on_data ws keeps.contents) keeps) c.add.ensures.err
