use Rattle.session_law.proofs.Holds.{holds}
use Rattle.session_law.proofs.laws.holds_over_sessions.Goals as goal

pub returns : goal.returns
returns c = holds
