use Rattle.std.proofs.Common.{take}
use Rattle.std.specs.Prelude.{All}
use Rattle.zk_records.specs.Acls.{IsShortAcl}
use Rattle.tree_server.proofs.sending.are_short_entries.Given as goal

abbrev pub invariant-loop-acl : goal.invariant-loop-acl
invariant-loop-acl l = All IsShortAcl (take l.acl-index l.list)
