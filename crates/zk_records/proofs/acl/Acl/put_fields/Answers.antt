use Rattle.std.proofs.Common.{rules}
use Rattle.jute_core.proofs.Glue.{put_int_then, put_field_then}
use Rattle.zk_records.proofs.acl.Acl.put_fields.Goals as goal

pub returns-clause-ok : goal.returns-clause-ok
returns-clause-ok c =
    let scheme = rw c.as_str.ensures at c.in_ok-put_ustring.ensures in
    let id = rw c.as_str-2.ensures at c.in_ok-put_ustring-2.ensures in
    put_int_then (search rules) c.in_ok-put_int.ensures (put_field_then scheme id)
