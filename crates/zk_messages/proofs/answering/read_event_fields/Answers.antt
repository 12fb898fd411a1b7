use Rattle.jute_core.proofs.Glue.{int_then}
use Rattle.zk_messages.proofs.answering.read_event_fields.Goals as goal

pub returns : goal.returns
returns c =
    let first = rw c.copy-ahead.ensures at c.in_ok-kind.ensures in
    int_then first (int_then c.in_ok-state.ensures c.in_ok-path.ensures)
