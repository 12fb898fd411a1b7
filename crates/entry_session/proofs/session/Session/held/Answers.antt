use Rattle.entry_session.proofs.Sessions.{holds}
use Rattle.entry_session.proofs.session.Session.held.Goals as goal

pub returns-clause-at : goal.returns-clause-at
returns-clause-at c = holds _ _ _ _ _ _ _ _ c.self.view_is c.held.ensures.held c.held-2.ensures.held c.weight.ensures.weight
