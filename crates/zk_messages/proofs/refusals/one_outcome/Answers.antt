use Rattle.zk_messages.proofs.FirstRules.{one_outcome}
use Rattle.zk_messages.proofs.refusals.one_outcome.Goals as goal

pub returns : goal.returns
returns c = one_outcome
