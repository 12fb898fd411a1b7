use Rattle.std.proofs.Common.{◌<◌, [], ◌∷◌, length, rules, arith, length-append}
use Rattle.jute_core.specs.Jute.{ustring}
use Rattle.jute_core.proofs.Many.{pass_more, fail_item}
use Rattle.jute_core.proofs.own.read_texts.Goals as goal

pub returns-in_err-read_text : goal.returns-in_err-read_text
returns-in_err-read_text c =
    let p = rw (c.copy-ahead.ensures, c.in-Some.is) at c.in_ok-count.ensures in
    let less : length c.loop.texts.items < c.in-Some.count = omega (arith, c.loop.invariant.1, c.loop-test.true) in
    let f = fail_item ustring _ _ _ _ _ _ p c.loop.invariant.0 less c.in_err-read_text.ensures.0 in
    search rules

pub loop-preserved : goal.loop-preserved
loop-preserved c = (
  rw c.in_ok-push.ensures.items (pass_more ustring _ _ _ _ _ c.loop.invariant.0 c.in_ok-read_text.ensures),
  rw c.in_ok-push.ensures.items (omega (arith, c.loop.invariant.1, length-append c.loop.texts.items (c.in_ok-read_text.field-0 ∷ []))),
)
