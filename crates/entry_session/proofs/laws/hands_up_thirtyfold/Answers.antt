use Rattle.entry_session.proofs.Thirtyfold as lemmas
use Rattle.entry_session.proofs.laws.hands_up_thirtyfold.Goals as goal

pub returns : goal.returns
returns c = lemmas.hands_up_thirtyfold
