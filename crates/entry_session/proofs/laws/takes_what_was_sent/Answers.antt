use Rattle.entry_session.proofs.SentItems.{takes_what_was_sent}
use Rattle.entry_session.proofs.laws.takes_what_was_sent.Goals as goal

pub returns : goal.returns
returns c = takes_what_was_sent
