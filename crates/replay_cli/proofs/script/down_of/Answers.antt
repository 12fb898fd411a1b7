use Rattle.std.proofs.Common.{arith}
use Rattle.std.specs.Prelude.{codes}
use Rattle.replay_cli.specs.Script.{event_text}
use Rattle.replay_cli.proofs.EventLemmas.{one_rest}
use Rattle.replay_cli.proofs.script.down_of.Goals as goal

pub returns-in_default-count_of-clause-none : goal.returns-in_default-count_of-clause-none
unfolding event_text
returns-in_default-count_of-clause-none c = λ n limit is.
    let before = c.in-Some-connection_before.ensures.found in
    let r = one_rest c.args.line.now (codes "down ") c.in-Some.text.now _ _ _ n (omega (arith, before.0)) (omega (arith, is.1.0)) c.in-Some.ensures.found before.1 is.0 in
    c.in_default-count_of.ensures.none limit is.1.1 r.1
