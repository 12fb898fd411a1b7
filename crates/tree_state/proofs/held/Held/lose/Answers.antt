use Rattle.tree_state.proofs.Connected.{lose_done}
use Rattle.tree_state.proofs.held.Held.lose.Goals as goal

pub returns : goal.returns
returns c = λ naming s means.
    lose_done naming s c.args.connection c.args.self.now _ _ means (c.lose.ensures s.sessions _ means.sessions) (c.lose-2.ensures s.watches means.watches)
