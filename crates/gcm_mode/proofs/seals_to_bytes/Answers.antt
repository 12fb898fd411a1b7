use Rattle.gcm_mode.proofs.Fits.{seals_to_bytes}
use Rattle.gcm_mode.proofs.seals_to_bytes.Goals as goal

pub returns : goal.returns
returns c = seals_to_bytes
