use Rattle.std.proofs.Common.{Err, ap}
use Rattle.zk_path.proofs.Judged.{stem_not_bad}
use Rattle.request_rewrite.proofs.names.legal_stem.Goals as goal

pub unreachable-requires : goal.unreachable-requires
unreachable-requires c =
    let place = c.in-Err-BadPath.field-0-0 in
    stem_not_bad c.args.text.now place c.requires.legal (rw c.as_str.ensures at ((c.in-Err-BadPath.ensures.bad place).0 (ap Err c.in-Err-BadPath.field-0-is)))
