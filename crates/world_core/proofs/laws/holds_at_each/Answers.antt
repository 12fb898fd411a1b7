use Rattle.world_core.proofs.Holding as lemmas
use Rattle.world_core.proofs.laws.holds_at_each.Goals as goal

pub returns : goal.returns
returns c = lemmas.holds_at_each
