use Rattle.std.proofs.Common.{◌≡◌, ◌<◌, [], ◌∷◌, length, map, rules, arith, length-append}
use Rattle.std.proofs.lemmas.List.{map-append, length-map}
use Rattle.jute_core.proofs.Many.{pass_more, fail_item, whole_vector}
use Rattle.zk_records.specs.Acls.{acl, acl_fields}
use Rattle.zk_records.proofs.acl.read_acls.Goals as goal

pub returns-in_err-read : goal.returns-in_err-read
returns-in_err-read c =
    let p = rw (c.copy-ahead.ensures, c.in-Some.is) at c.in_ok-count.ensures in
    let less : length (map acl_fields c.loop.list.items) < c.in-Some.count = omega (arith, c.loop.invariant.1, c.loop-test.true, length-map c.loop.list.items acl_fields) in
    let f = fail_item acl _ _ _ _ _ _ p c.loop.invariant.0 less c.in_err-read.ensures.0 in
    search rules

pub loop-preserved : goal.loop-preserved
loop-preserved c =
    let e = map-append acl_fields c.loop.list.items (c.in_ok-read.field-0 ∷ []) in (
      rw (c.in_ok-push.ensures.items, e) (pass_more acl _ _ _ _ _ c.loop.invariant.0 c.in_ok-read.ensures),
      rw c.in_ok-push.ensures.items (omega (arith, c.loop.invariant.1, length-append c.loop.list.items (c.in_ok-read.field-0 ∷ []))),
    )

pub returns : goal.returns
returns c =
    let p = rw (c.copy-ahead.ensures, c.in-Some.is) at c.in_ok-count.ensures in
    let all : length (map acl_fields c.loop.list.items) ≡ c.in-Some.count = omega (arith, c.loop.invariant.1, c.loop-test.false, c.loop.auto.counter-end, length-map c.loop.list.items acl_fields) in
    rw c.of.ensures (whole_vector acl _ _ _ _ _ p c.loop.invariant.0 all)
