use Rattle.entry_session.proofs.Sessions.{starts}
use Rattle.entry_session.proofs.session.Session.new.Goals as goal

pub returns-clause-at : goal.returns-clause-at
returns-clause-at c = starts _ _ _ _ _ _ _ _ c.new.ensures c.new-2.ensures c.new-3.ensures
