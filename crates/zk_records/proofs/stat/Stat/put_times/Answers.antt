use Rattle.std.proofs.Common.{rules}
use Rattle.jute_core.proofs.Glue.{put_long_then, put_long_last}
use Rattle.zk_records.proofs.stat.Stat.put_times.Goals as goal

pub returns-clause-ok : goal.returns-clause-ok
returns-clause-ok c = put_long_then (search rules) c.in_ok-put_long.ensures (put_long_then (search rules) c.in_ok-put_long-2.ensures (put_long_then (search rules) c.in_ok-put_long-3.ensures (put_long_last (search rules) c.in_ok-put_long-4.ensures)))
