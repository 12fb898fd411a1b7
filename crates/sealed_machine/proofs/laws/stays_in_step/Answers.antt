use Rattle.sealed_machine.proofs.EachLaw.{stays_in_step}
use Rattle.sealed_machine.proofs.laws.stays_in_step.Goals as goal

pub returns : goal.returns
returns c = stays_in_step
