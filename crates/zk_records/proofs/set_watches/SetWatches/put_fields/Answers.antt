use Rattle.std.proofs.Common.{rules}
use Rattle.jute_core.proofs.Glue.{put_long_then, put_field_then}
use Rattle.zk_records.proofs.set_watches.SetWatches.put_fields.Goals as goal

pub returns-clause-ok : goal.returns-clause-ok
returns-clause-ok c = put_long_then (search rules) c.in_ok-put_long.ensures (put_field_then c.in_ok-put_texts.ensures (put_field_then c.in_ok-put_texts-2.ensures c.in_ok-put_texts-3.ensures))
