use Rattle.gcm_mode.proofs.Absorbing.{nothing}
use Rattle.gcm_mode.proofs.absorbed.Absorbed.new.Goals as goal

pub returns : goal.returns
returns c = nothing
