use Rattle.std.proofs.Common.{take, map}
use Rattle.jute_core.specs.Position.{AddsEach}
use Rattle.zk_records.specs.Acls.{acl, acl_fields}
use Rattle.zk_records.proofs.acl.put_items.Given as goal

abbrev pub invariant-loop-acl : goal.invariant-loop-acl
invariant-loop-acl l = AddsEach l.initial.into.items l.into.items acl (take l.acl-index (map acl_fields l.list))
