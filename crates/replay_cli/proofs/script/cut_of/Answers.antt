use Rattle.std.proofs.Common.{sym, ◌∙◌, arith}
use Rattle.std.specs.Prelude.{codes}
use Rattle.std.specs.Fmt.{decimal}
use Rattle.std.proofs.lemmas.Fmt.{decimal_injective}
use Rattle.replay_cli.specs.Script.{event_text}
use Rattle.replay_cli.proofs.EventLemmas.{one_behind}
use Rattle.replay_cli.proofs.script.cut_of.Goals as goal

pub returns-then-connection-eq0-clause-none : goal.returns-then-connection-eq0-clause-none
unfolding event_text
returns-then-connection-eq0-clause-none c = λ n is.
    let text = one_behind c.args.line.now (codes "cut ") c.in-Some.text.now (decimal n) c.in-Some.ensures.found is.0 in
    let same = decimal_injective _ n (omega (arith, c.in-Some-number_of.ensures.found.0)) (omega (arith, is.1)) (sym c.in-Some-number_of.ensures.found.1 ∙ text) in
    omega (arith, same, is.1, c.if-connection-eq0.true)
