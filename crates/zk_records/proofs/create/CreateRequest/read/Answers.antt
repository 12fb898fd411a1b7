use Rattle.jute_core.proofs.Glue.{field_then, int_last}
use Rattle.zk_records.proofs.create.CreateRequest.read.Goals as goal

pub returns : goal.returns
returns c =
    let first = rw c.copy-ahead.ensures at c.in_ok-path.ensures in
    field_then first (field_then c.in_ok-content.ensures (field_then c.in_ok-acls.ensures (int_last c.in_ok-flags.ensures)))
