use Rattle.world_core.proofs.Drained as lemmas
use Rattle.world_core.proofs.laws.leaves_nothing.Goals as goal

pub returns : goal.returns
returns c = lemmas.leaves_nothing
