use Rattle.replay_cli.proofs.LineLemmas.{front_cut, no_front}
use Rattle.replay_cli.proofs.lines.behind.Goals as goal

pub returns-in_default-clause-none : goal.returns-in_default-clause-none
returns-in_default-clause-none c = λ rest e. no_front _ _ rest c.in_default.ensures.cases e

pub returns-clause-found : goal.returns-clause-found
returns-clause-found c = front_cut _ _ _ c.in-Some.ensures.cases.0 c.in-Some.ensures.cases.1
