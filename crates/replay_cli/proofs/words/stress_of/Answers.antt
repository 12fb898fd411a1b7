use Rattle.std.proofs.Common.{◌∙◌, sym, arith}
use Rattle.std.proofs.lemmas.Bool.Decides.{nat_tests}
use Rattle.std.proofs.lemmas.Fmt.{decimal_injective}
use Rattle.replay_cli.proofs.words.stress_of.Goals as goal

pub returns-then-sessions-eq0-clause-none : goal.returns-then-sessions-eq0-clause-none
returns-then-sessions-eq0-clause-none c = λ seed sessions steps are.
    let found = c.in_ok-sessions.ensures.found in
    let text = sym c.as_bytes-2.ensures.value ∙ found.1 in
    let same = decimal_injective _ _ (omega (arith, found.0)) (omega (arith, are.sessions_most)) (sym text ∙ c.word-2.ensures ∙ are.sessions_are) in
    let none = c.if-sessions-eq0.true in
    omega (arith, none, same, are.sessions_least)
