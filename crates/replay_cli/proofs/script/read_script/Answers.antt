use Rattle.std.proofs.Common.{◌≡◌, ap, ◌∙◌, rules, arith}
use Rattle.std.specs.Prelude.{IsTrue, false}
use Rattle.std.specs.Option.{option_copied}
use Rattle.replay_cli.specs.Script.{event_text, MayStand, opened_by}
use Rattle.replay_cli.specs.Lines.{lines}
use Rattle.replay_cli.specs.Reading.{lines_after}
use Rattle.replay_cli.proofs.ReadingLemmas.{one_more, bad_line, bad_is_outside, at_end, few_above, one_says}
use Rattle.replay_cli.proofs.GrammarLemmas.{replay_grammar}
use Rattle.replay_cli.proofs.script.read_script.Goals as goal

pub overflow_add-result : goal.overflow_add-result
overflow_add-result c =
    let cut = ap (λ r. lines_after (option_copied r)) c.in-Some.is ∙ c.first_line.ensures in
    let few = few_above event_text MayStand opened_by c.args.text.now _ _ _ _ _ cut c.loop-rest.invariant.1 in
    omega (arith, few, c.type_inv.text)

pub returns-then-not-branch-clause-bad : goal.returns-then-not-branch-clause-bad
returns-then-not-branch-clause-bad c =
    let cut = ap (λ r. lines_after (option_copied r)) c.in-Some.is ∙ c.first_line.ensures in
    let fits : c.in_ok-take.field-0 ≡ false = search rules in
    bad_line event_text MayStand opened_by _ _ _ _ _ _ cut (c.in_ok-take.ensures.refused fits) c.loop-rest.invariant.1

pub returns-then-not-branch-clause-outside : goal.returns-then-not-branch-clause-outside
returns-then-not-branch-clause-outside c = λ events says.
    let cut = ap (λ r. lines_after (option_copied r)) c.in-Some.is ∙ c.first_line.ensures in
    let fits : c.in_ok-take.field-0 ≡ false = search rules in
    bad_is_outside event_text MayStand opened_by replay_grammar _ _ events (bad_line event_text MayStand opened_by c.args.text.now _ _ _ _ _ cut (c.in_ok-take.ensures.refused fits) c.loop-rest.invariant.1) says

pub overflow_add-above : goal.overflow_add-above
overflow_add-above c =
    let cut = ap (λ r. lines_after (option_copied r)) c.in-Some.is ∙ c.first_line.ensures in
    let few = few_above event_text MayStand opened_by c.args.text.now _ _ _ _ _ cut c.loop-rest.invariant.1 in
    omega (arith, few, c.type_inv.text)

pub loop-rest-preserved : goal.loop-rest-preserved
loop-rest-preserved c =
    let cut = ap (λ r. lines_after (option_copied r)) c.in-Some.is ∙ c.first_line.ensures in
    let fits : IsTrue c.in_ok-take.field-0 = search rules in
    (c.in_ok-take.ensures.counted, one_more event_text MayStand opened_by _ _ _ _ _ _ _ cut (c.in_ok-take.ensures.taken fits) c.loop-rest.invariant.1)

pub returns-clause-only : goal.returns-clause-only
returns-clause-only c = λ other says.
    let none = ap (λ r. lines_after (option_copied r)) c.in_default.is in
    one_says event_text MayStand opened_by replay_grammar (lines c.args.text.now) 0 other _ (omega arith) says (rw c.of.ensures (at_end event_text MayStand opened_by _ _ _ _ none c.loop-rest.invariant.1))
