use Rattle.jute_core.proofs.Glue.{int_then, int_last}
use Rattle.zk_records.proofs.header.RequestHeader.read.Goals as goal

pub returns-clause-reads : goal.returns-clause-reads
returns-clause-reads c =
    let first = rw c.copy-ahead.ensures at c.in_ok-xid.ensures in
    int_then first (int_last c.in_ok-kind.ensures)
