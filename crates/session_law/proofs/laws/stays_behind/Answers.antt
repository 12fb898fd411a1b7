use Rattle.session_law.proofs.GoingOn as lemmas
use Rattle.session_law.proofs.laws.stays_behind.Goals as goal

pub returns : goal.returns
returns c = lemmas.stays_behind
