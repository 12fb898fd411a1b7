use Rattle.jute_core.proofs.Glue.{int_then, long_then, long_last}
use Rattle.zk_records.proofs.stat.Stat.read.Goals as goal

pub returns-clause-reads : goal.returns-clause-reads
returns-clause-reads c =
    let first = rw c.copy-ahead.ensures at c.in_ok-czxid.ensures in
    let last = long_last c.in_ok-pzxid.ensures in
    let counts = int_then c.in_ok-length.ensures (int_then c.in_ok-children.ensures last) in
    let owner = long_then c.in_ok-owner.ensures counts in
    let versions = int_then c.in_ok-version.ensures (int_then c.in_ok-cversion.ensures (int_then c.in_ok-aversion.ensures owner)) in
    let times = long_then c.in_ok-ctime.ensures (long_then c.in_ok-mtime.ensures versions) in
    long_then first (long_then c.in_ok-mzxid.ensures times)
