use Rattle.jute_core.specs.Jute.{Spells}
use Rattle.zk_records.specs.Acls.{acl, acl_fields}
use Rattle.zk_records.specs.declared.acl.Acl.{Acl}
use Rattle.store_side.proofs.Counted.{count_next}
use Rattle.store_side.proofs.sizes.each_acl_length.Goals as goal

pub loop-entry-preserved : goal.loop-entry-preserved
loop-entry-preserved c =
    count_next (λ (a : Acl). Spells acl (acl_fields a)) _ _ _ _ _ _ c.loop-entry.invariant c.loop-entry-test.true c.entry-item.is
    c.acl_length.ensures c.saturating_add-total.ensures
