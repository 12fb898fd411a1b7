use Rattle.std.proofs.Common.{◌≡◌, length, map}
use Rattle.jute_core.specs.Position.{PassesEach}
use Rattle.zk_records.specs.Acls.{acl, acl_fields}
use Rattle.zk_records.proofs.acl.read_acls.Given as goal

abbrev pub invariant-loop : goal.invariant-loop
invariant-loop l = PassesEach l.initial.ahead l.ahead acl (map acl_fields l.list.items) × (length l.list.items ≡ l.counter)
