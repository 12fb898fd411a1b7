use Rattle.sealed_machine.proofs.EachLaw.{keeps_what_is_asked}
use Rattle.sealed_machine.proofs.laws.keeps_what_is_asked.Goals as goal

pub returns : goal.returns
returns c = keeps_what_is_asked
