use Rattle.std.proofs.Common.{Err, ap, ◌∙◌}
use Rattle.payload_seal.proofs.NotLong.{never_long_both}
use Rattle.payload_seal.proofs.sealing.seal_short.Goals as goal

pub unreachable-requires : goal.unreachable-requires
unreachable-requires c =
    let size = c.in-Err-TooLong.field-0-0 in
    never_long_both c.args.first.now c.args.second.now size c.requires ((c.seal_pieces.ensures.long size).0 (c.in-Err-TooLong.is ∙ ap Err c.in-Err-TooLong.field-0-is))
