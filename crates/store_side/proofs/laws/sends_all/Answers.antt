use Rattle.store_side.proofs.CanSend.{all_sent}
use Rattle.store_side.proofs.laws.sends_all.Goals as goal

pub returns : goal.returns
returns c = all_sent
