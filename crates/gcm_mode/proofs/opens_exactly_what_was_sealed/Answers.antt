use Rattle.gcm_mode.proofs.RoundTrip.{opens_exactly}
use Rattle.gcm_mode.proofs.opens_exactly_what_was_sealed.Goals as goal

pub returns : goal.returns
returns c = opens_exactly
