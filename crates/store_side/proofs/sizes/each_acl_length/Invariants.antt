use Rattle.std.proofs.Common.{take}
use Rattle.jute_core.specs.Jute.{Spells, Each}
use Rattle.zk_records.specs.Acls.{acl, acl_fields}
use Rattle.store_side.specs.Counted.{IsCounted}
use Rattle.store_side.proofs.sizes.each_acl_length.Given as goal

abbrev pub invariant-loop-entry : goal.invariant-loop-entry
invariant-loop-entry l = IsCounted (Each (λ a. Spells acl (acl_fields a)) (take l.entry-index l.list)) l.total
