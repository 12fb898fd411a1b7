use Rattle.entry_session.proofs.HandedUp.{hands_up_veiled}
use Rattle.entry_session.proofs.laws.hands_up_veiled.Goals as goal

pub returns : goal.returns
returns c = hands_up_veiled
