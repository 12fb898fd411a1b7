use Rattle.entry_session.proofs.GoesOn as lemmas
use Rattle.entry_session.proofs.laws.goes_on.Goals as goal

pub returns : goal.returns
returns c = lemmas.goes_on
