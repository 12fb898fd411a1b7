use Rattle.entry_session.proofs.Sessions.{ends_by}
use Rattle.entry_session.proofs.session.Session.end.Goals as goal

pub returns-clause-ends : goal.returns-clause-ends
returns-clause-ends c = ends_by _ _ _ _ _ _ _ c.self.view_is c.requires c.unwrap_or-ending.ensures
