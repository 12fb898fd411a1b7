use Rattle.jute_core.proofs.Glue.{put_field_then}
use Rattle.zk_records.proofs.ConnectLemmas.{puts_older_response, puts_newer_response}
use Rattle.zk_records.proofs.connect.ConnectResponse.put_fields.Goals as goal

pub returns-in-None-clause-ok : goal.returns-in-None-clause-ok
returns-in-None-clause-ok c = puts_older_response _ _ _ _ c.in-None.is c.in_ok-put_older.ensures.ok

pub returns-clause-ok : goal.returns-clause-ok
returns-clause-ok c = puts_newer_response _ _ _ _ _ c.in-Some.is (put_field_then c.in_ok-put_older.ensures.ok c.in_ok-put_bool-in-Some.ensures)
