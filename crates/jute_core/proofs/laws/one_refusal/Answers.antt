use Rattle.jute_core.proofs.OneRefusal.{one_refusal}
use Rattle.jute_core.proofs.WholeLemmas.{one_whole_refusal}
use Rattle.jute_core.proofs.laws.one_refusal.Goals as goal

pub returns-clause-front : goal.returns-clause-front
returns-clause-front c = one_refusal

pub returns-clause-whole : goal.returns-clause-whole
returns-clause-whole c = one_whole_refusal
