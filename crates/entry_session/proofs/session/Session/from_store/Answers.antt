use Rattle.entry_session.proofs.Sessions.{tells, tells_again, store_takes, store_wants_at}
use Rattle.entry_session.proofs.session.Session.from_store.Goals as goal

pub returns-in-Some-clause-answer : goal.returns-in-Some-clause-answer
returns-in-Some-clause-answer c = tells_again _ _ _ c.self.view_is c.in-Some.is

pub returns-clause-answer : goal.returns-clause-answer
returns-clause-answer c = tells _ _ c.err-self-inside.ensures.value

pub returns-clause-takes : goal.returns-clause-takes
returns-clause-takes c = store_takes _ _ _ _ _ _ _ _ _ _ _ _ _ _ c.self.view_is c.err-self-inside.ensures.value c.take_all-taken.ensures.same c.take_all-taken.ensures.takes

pub returns-clause-wants : goal.returns-clause-wants
returns-clause-wants c = store_wants_at _ _ _ _ _ _ _ _ _ _ _ c.self.view_is c.err-self-inside.ensures.value c.take_all-taken.ensures.wants
