use Rattle.sealed_machine.proofs.EachLaw.{veils_what_is_asked}
use Rattle.sealed_machine.proofs.laws.veils_what_is_asked.Goals as goal

pub returns : goal.returns
returns c = veils_what_is_asked
