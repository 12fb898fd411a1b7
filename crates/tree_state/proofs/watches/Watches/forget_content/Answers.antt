use Rattle.tree_state.specs.State.{on_data}
use Rattle.tree_state.proofs.AllWatches.{data_forgotten}
use Rattle.tree_state.proofs.watches.Watches.forget_content.Goals as goal

pub returns : goal.returns
returns c = λ ws p keeps is. data_forgotten c.args.self.now c.remove.new.self p c.args.connection ws (c.remove.ensures on_data ws p keeps.contents is) keeps
