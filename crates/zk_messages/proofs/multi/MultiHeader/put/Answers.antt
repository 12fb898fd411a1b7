use Rattle.std.proofs.Common.{rules}
use Rattle.jute_core.proofs.Glue.{put_int_then, put_field_then, put_int_last}
use Rattle.zk_messages.proofs.multi.MultiHeader.put.Goals as goal

pub returns-clause-ok : goal.returns-clause-ok
returns-clause-ok c = put_int_then (search rules) c.in_ok-put_int.ensures (put_field_then c.in_ok-put_bool.ensures (put_int_last (search rules) c.in_ok-put_int-2.ensures))
