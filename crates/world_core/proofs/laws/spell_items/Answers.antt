use Rattle.world_core.proofs.SentItems as lemmas
use Rattle.world_core.proofs.laws.spell_items.Goals as goal

pub returns : goal.returns
returns c = lemmas.spell_items
