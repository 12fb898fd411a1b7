use Rattle.std.proofs.Common.{FitsSigned, w32, rules}
use Rattle.std.proofs.lemmas.Int.{to_z-of_z}
use Rattle.jute_core.proofs.Glue.{put_field_then, put_int_last}
use Rattle.zk_messages.proofs.multi.put_error.Goals as goal

pub returns-clause-ok : goal.returns-clause-ok
returns-clause-ok c =
    let fits : FitsSigned w32 c.args.code = search rules in
    let head = rw (to_z-of_z w32 c.args.code fits) at c.in_ok-put.ensures.ok in
    put_field_then head (put_int_last fits c.in_ok-put_int.ensures)
