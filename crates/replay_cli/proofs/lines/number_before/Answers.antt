use Rattle.std.proofs.Common.{arith}
use Rattle.replay_cli.proofs.EventLemmas.{none_before, word_is}
use Rattle.replay_cli.proofs.lines.number_before.Goals as goal

pub returns-in_default-clause-none : goal.returns-in_default-clause-none
returns-in_default-clause-none c = λ n rest le e. none_before _ _ n c.in_default.ensures.none e

pub returns-in_default-number_of-clause-none : goal.returns-in_default-number_of-clause-none
returns-in_default-number_of-clause-none c = λ n rest le e.
    let w = word_is _ _ _ _ n (omega arith) c.in-Some.ensures.found.1 c.in-Some.ensures.found.0 e in
    c.in_default-number_of.ensures.none n le w.0
