use Rattle.std.proofs.Common.{arith, rules}
use Rattle.reply_rewrite.proofs.Multis.{caused_first}
use Rattle.reply_rewrite.proofs.multi.unveil_each.Goals as goal

pub returns-in_err-result-clause-cause : goal.returns-in_err-result-clause-cause
returns-in_err-result-clause-cause c =
    let within = c.loop-index-test.true in
    let same = c.requires.same in
    let h = caused_first c.args.keys.now c.args.failed c.args.ops.now c.args.stored.now c.loop-index.plain.items c.loop-index.index c.index-ops-index.result c.index-stored-index.result c.in_err-result.field-0.0
    c.in_err-result.ensures.cause within (omega (arith, within, same)) c.index-ops-index.is c.index-stored-index.is c.loop-index.invariant in
    search rules
