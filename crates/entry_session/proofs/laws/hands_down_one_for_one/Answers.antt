use Rattle.entry_session.proofs.HandedDown.{hands_down}
use Rattle.entry_session.proofs.laws.hands_down_one_for_one.Goals as goal

pub returns : goal.returns
returns c = hands_down
