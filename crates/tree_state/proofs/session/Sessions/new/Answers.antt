use Rattle.tree_state.proofs.SessionsKept.{none_kept}
use Rattle.tree_state.proofs.session.Sessions.new.Goals as goal

pub returns : goal.returns
returns c = λ owned. none_kept _ owned c.new.ensures.empty c.new-2.ensures.empty
