use Rattle.sealed_machine.proofs.SealedNaming.{has_sealed_naming}
use Rattle.sealed_machine.proofs.laws.sealed_naming.Goals as goal

pub returns : goal.returns
returns c = has_sealed_naming
