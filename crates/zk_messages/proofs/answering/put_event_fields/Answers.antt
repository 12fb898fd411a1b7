use Rattle.std.proofs.Common.{rules}
use Rattle.jute_core.proofs.Glue.{put_int_then}
use Rattle.zk_messages.proofs.answering.put_event_fields.Goals as goal

pub returns-clause-ok : goal.returns-clause-ok
returns-clause-ok c =
    let path = rw c.as_str.ensures at c.in_ok-put_ustring.ensures in
    put_int_then (search rules) c.in_ok-put_int.ensures (put_int_then (search rules) c.in_ok-put_int-2.ensures path)
