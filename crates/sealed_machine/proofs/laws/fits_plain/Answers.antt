use Rattle.sealed_machine.proofs.AnswersFit.{plain_fits}
use Rattle.sealed_machine.proofs.laws.fits_plain.Goals as goal

pub returns : goal.returns
returns c = plain_fits
