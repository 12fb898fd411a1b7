use Rattle.std.proofs.Common.{arith}
use Rattle.std.specs.Prelude.{codes}
use Rattle.std.specs.Fmt.{decimal}
use Rattle.replay_cli.specs.Script.{event_text}
use Rattle.replay_cli.proofs.EventLemmas.{one_before, one_rest}
use Rattle.replay_cli.proofs.script.up_of.Goals as goal

pub returns-in_default-number_before-clause-none : goal.returns-in_default-number_before-clause-none
unfolding event_text
returns-in_default-number_before-clause-none c = λ n first second is.
    let before = c.in-Some-connection_before.ensures.found in
    let r = one_rest c.args.line.now (codes "up ") c.in-Some.text.now _ _ _ n (omega (arith, before.0)) (omega (arith, is.1.0)) c.in-Some.ensures.found before.1 is.0 in
    c.in_default-number_before.ensures.none first (decimal second) (omega (arith, is.1.1)) r.1

pub returns-in_default-count_of-clause-none : goal.returns-in_default-count_of-clause-none
unfolding event_text
returns-in_default-count_of-clause-none c = λ n first second is.
    let before = c.in-Some-connection_before.ensures.found in
    let r = one_rest c.args.line.now (codes "up ") c.in-Some.text.now _ _ _ n (omega (arith, before.0)) (omega (arith, is.1.0)) c.in-Some.ensures.found before.1 is.0 in
    let counts = c.in-Some-number_before.ensures.found in
    let s = one_before _ _ _ _ first (omega (arith, counts.0)) (omega (arith, is.1.1)) counts.1 r.1 in
    c.in_default-count_of.ensures.none second is.1.2 s.1
