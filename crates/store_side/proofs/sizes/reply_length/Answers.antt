use Rattle.std.proofs.Common.{FitsSigned, w32, w64, rules, arith}
use Rattle.store_side.proofs.CountedReplies.{count_reply}
use Rattle.store_side.proofs.sizes.reply_length.Goals as goal

pub returns : goal.returns
returns c =
    let xid : FitsSigned w32 c.args.reply.now.xid = search rules in
    let zxid : FitsSigned w64 c.args.reply.now.zxid = search rules in
    let code : FitsSigned w32 c.err_of.result = search rules in
    let err = rw c.err_of.ensures at code in
    count_reply _ _ _ xid zxid err c.outcome_length.ensures (omega arith)
