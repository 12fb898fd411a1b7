use Rattle.jute_core.proofs.Glue.{long_then, field_then}
use Rattle.zk_records.proofs.set_watches.SetWatches.read.Goals as goal

pub returns : goal.returns
returns c =
    let first = rw c.copy-ahead.ensures at c.in_ok-seen.ensures in
    long_then first (field_then c.in_ok-content_paths.ensures (field_then c.in_ok-exist_paths.ensures c.in_ok-child_paths.ensures))
