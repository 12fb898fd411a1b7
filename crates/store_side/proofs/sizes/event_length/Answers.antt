use Rattle.std.proofs.Common.{FitsSigned, w32, rules, arith}
use Rattle.store_side.proofs.CountedReplies.{count_event}
use Rattle.store_side.proofs.sizes.event_length.Goals as goal

pub returns : goal.returns
returns c =
    let kind : FitsSigned w32 c.args.event.now.kind = search rules in
    let state : FitsSigned w32 c.args.event.now.state = search rules in
    count_event _ _ _ kind state c.text_length.ensures (omega arith)
