use Rattle.std.proofs.Common.{arith}
use Rattle.std.specs.Prelude.{codes}
use Rattle.replay_cli.specs.Script.{event_text}
use Rattle.replay_cli.proofs.EventLemmas.{one_rest}
use Rattle.replay_cli.proofs.script.send_of.Goals as goal

pub returns-in_default-2-clause-none : goal.returns-in_default-2-clause-none
unfolding event_text
returns-in_default-2-clause-none c = λ n bytes is.
    let before = c.in-Some-connection_before.ensures.found in
    let r = one_rest c.args.line.now (codes "send ") c.in-Some.text.now _ _ _ n (omega (arith, before.0)) (omega (arith, is.1.0)) c.in-Some.ensures.found before.1 is.0 in
    let never = rw c.in_default-2.is at c.in_ok-bytes.ensures.none in
    never bytes (r.1, is.1.1)
