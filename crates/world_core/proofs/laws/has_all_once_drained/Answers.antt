use Rattle.world_core.proofs.Complete as lemmas
use Rattle.world_core.proofs.laws.has_all_once_drained.Goals as goal

pub returns : goal.returns
returns c = lemmas.has_all_once_drained
