use Rattle.std.proofs.Common.{◌≡◌, ◌<◌, get_or, length, map, arith, sym, ap, ◌∙◌}
use Rattle.std.proofs.Math.ListN.{get_or-map}
use Rattle.std.proofs.lemmas.List.{length-map}
use Rattle.jute_core.proofs.Many.{add_next, add_all}
use Rattle.zk_records.specs.Acls.{acl, acl_fields}
use Rattle.zk_records.proofs.acl.put_items.Goals as goal

pub loop-acl-preserved : goal.loop-acl-preserved
loop-acl-preserved c =
    let less : c.loop-acl.acl-index < length (map acl_fields c.args.list.now) = omega (arith, c.loop-acl-test.true, length-map c.args.list.now acl_fields) in
    let at : acl_fields c.acl-item.result ≡ get_or (map acl_fields c.args.list.now) c.loop-acl.acl-index (acl_fields c.acl-item.result)
    = ap acl_fields c.acl-item.is ∙ sym (get_or-map acl_fields c.args.list.now c.loop-acl.acl-index c.acl-item.result) in
    add_next acl _ _ _ _ _ _ c.loop-acl.invariant less at c.in_ok-write.ensures

pub returns-clause-ok : goal.returns-clause-ok
returns-clause-ok c =
    let p = rw (sym (length-map c.args.list.now acl_fields)) at c.in_ok-put_count.ensures in
    add_all acl _ _ _ _ _ p c.loop-acl.invariant (omega (arith, c.loop-acl-test.false, length-map c.args.list.now acl_fields))
