use Rattle.std.proofs.Common.{rules}
use Rattle.jute_core.proofs.Glue.{put_int_then, put_long_then}
use Rattle.zk_records.proofs.connect.ConnectRequest.put_older.Goals as goal

pub returns-clause-ok : goal.returns-clause-ok
returns-clause-ok c = put_int_then (search rules) c.in_ok-put_int.ensures (put_long_then (search rules) c.in_ok-put_long.ensures (put_int_then (search rules) c.in_ok-put_int-2.ensures (put_long_then (search rules) c.in_ok-put_long-2.ensures c.in_ok-put_bytes.ensures)))
