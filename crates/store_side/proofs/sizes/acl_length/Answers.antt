use Rattle.std.proofs.Common.{FitsSigned, w32, rules, arith}
use Rattle.store_side.proofs.CountedReplies.{count_acl}
use Rattle.store_side.proofs.sizes.acl_length.Goals as goal

pub returns : goal.returns
returns c =
    let perms : FitsSigned w32 c.args.entry.now.perms = search rules in
    count_acl _ _ _ _ _ perms c.text_length.ensures c.text_length-2.ensures c.saturating_add.ensures (omega arith)
