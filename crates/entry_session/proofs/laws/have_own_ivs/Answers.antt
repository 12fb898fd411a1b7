use Rattle.entry_session.proofs.OwnIvs.{own_ivs}
use Rattle.entry_session.proofs.laws.have_own_ivs.Goals as goal

pub returns : goal.returns
returns c = own_ivs
