use Rattle.entry_session.proofs.Sessions.{tells, tells_again, client_takes, client_wants}
use Rattle.entry_session.proofs.session.Session.from_client.Goals as goal

pub returns-in-Some-clause-answer : goal.returns-in-Some-clause-answer
returns-in-Some-clause-answer c = tells_again _ _ _ c.self.view_is c.in-Some.is

pub returns-clause-answer : goal.returns-clause-answer
returns-clause-answer c = tells _ _ c.err-self-inside.ensures.value

pub returns-clause-takes : goal.returns-clause-takes
returns-clause-takes c = client_takes _ _ _ _ _ _ _ _ _ _ _ _ c.self.view_is c.err-self-inside.ensures.value c.take_client-taken.ensures.same c.take_client-taken.ensures.takes

pub returns-clause-wants : goal.returns-clause-wants
returns-clause-wants c = client_wants _ _ _ _ _ _ _ _ _ _ c.self.view_is c.err-self-inside.ensures.value c.take_client-taken.ensures.wants
