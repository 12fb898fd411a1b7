use Rattle.std.proofs.Common.{arith}
use Rattle.std.proofs.lemmas.Bool.Decides.{nat_tests}
use Rattle.gcm_mode.specs.Gcm.{passed_length}
use Rattle.gcm_mode.proofs.fault.passed_length.Goals as goal

pub returns-then-text-gt-LONGEST-clause-value : goal.returns-then-text-gt-LONGEST-clause-value
unfolding passed_length
returns-then-text-gt-LONGEST-clause-value c = λ a x ea ex. grind (arith, nat_tests)

pub returns-then-aad-gt-LONGEST-clause-value : goal.returns-then-aad-gt-LONGEST-clause-value
unfolding passed_length
returns-then-aad-gt-LONGEST-clause-value c = λ a x ea ex. grind (arith, nat_tests)

pub returns-else-aad-gt-LONGEST-clause-value : goal.returns-else-aad-gt-LONGEST-clause-value
unfolding passed_length
returns-else-aad-gt-LONGEST-clause-value c = λ a x ea ex. grind (arith, nat_tests)
