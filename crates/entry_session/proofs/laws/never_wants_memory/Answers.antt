use Rattle.entry_session.proofs.NoMemory as lemmas
use Rattle.entry_session.proofs.laws.never_wants_memory.Goals as goal

pub returns : goal.returns
returns c = lemmas.never_wants_memory
