use Rattle.std.proofs.Common.{arith}
use Rattle.jute_core.specs.Jute.{ustring}
use Rattle.jute_core.proofs.Many.{add_next, add_all}
use Rattle.jute_core.proofs.own.put_items.Goals as goal

pub loop-text-preserved : goal.loop-text-preserved
loop-text-preserved c =
    let p = rw c.as_str.ensures at c.in_ok-put_ustring.ensures in
    add_next ustring _ _ _ _ _ _ c.loop-text.invariant c.loop-text-test.true c.text-item.is p

pub returns-clause-ok : goal.returns-clause-ok
returns-clause-ok c = add_all ustring _ _ _ _ _ c.in_ok-put_count.ensures c.loop-text.invariant (omega (arith, c.loop-text-test.false))
