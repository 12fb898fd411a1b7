use Rattle.jute_core.proofs.Glue.{int_then, long_then}
use Rattle.zk_records.proofs.connect.ConnectRequest.read_older.Goals as goal

pub returns-clause-reads : goal.returns-clause-reads
returns-clause-reads c =
    let first = rw c.copy-ahead.ensures at c.in_ok-protocol.ensures in
    int_then first (long_then c.in_ok-seen.ensures (int_then c.in_ok-timeout.ensures (long_then c.in_ok-session.ensures c.in_ok-password.ensures)))
