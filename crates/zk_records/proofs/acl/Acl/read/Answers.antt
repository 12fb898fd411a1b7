use Rattle.jute_core.proofs.Glue.{int_then, field_then}
use Rattle.zk_records.proofs.acl.Acl.read.Goals as goal

pub returns : goal.returns
returns c =
    let first = rw c.copy-ahead.ensures at c.in_ok-perms.ensures in
    int_then first (field_then c.in_ok-scheme.ensures c.in_ok-id.ensures)
