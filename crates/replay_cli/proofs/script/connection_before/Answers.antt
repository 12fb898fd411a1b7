use Rattle.std.proofs.Common.{arith}
use Rattle.replay_cli.proofs.EventLemmas.{one_before}
use Rattle.replay_cli.proofs.script.connection_before.Goals as goal

pub returns-then-number-eq0-clause-none : goal.returns-then-number-eq0-clause-none
returns-then-number-eq0-clause-none c = λ n rest is e.
    let same = one_before _ _ _ _ n (omega (arith, c.in-Some.ensures.found.0)) (omega (arith, is)) c.in-Some.ensures.found.1 e in
    omega (arith, same.0, is, c.if-number-eq0.true)
