use Rattle.std.proofs.Common.{refl}
use Rattle.tree_state.proofs.Root.{start_means}
use Rattle.tree_state.proofs.held.Held.starting_at.Goals as goal

pub returns : goal.returns
returns c = start_means _ c.args.creations c.in_ok-new.ensures c.new-2.ensures c.new-3.ensures refl
