use Rattle.entry_session.proofs.OneStand.{leads_to_one}
use Rattle.entry_session.proofs.laws.leads_to_one.Goals as goal

pub returns : goal.returns
returns c = leads_to_one
