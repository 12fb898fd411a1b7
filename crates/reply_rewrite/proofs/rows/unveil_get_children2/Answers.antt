use Rattle.std.proofs.Common.{rules}
use Rattle.reply_rewrite.proofs.Answering.{list_caused, children2_caused}
use Rattle.reply_rewrite.proofs.rows.unveil_get_children2.Goals as goal

pub returns-in_err-children-clause-cause : goal.returns-in_err-children-clause-cause
returns-in_err-children-clause-cause c =
    let h = list_caused c.args.keys.now c.args.path.now c.args.list.now c.args.stored.now c.in_err-children.field-0.0 c.in_err-children.ensures.cause in
    search rules

pub returns-in_err-stat-clause-cause : goal.returns-in_err-stat-clause-cause
returns-in_err-stat-clause-cause c =
    let h = children2_caused c.args.keys.now c.args.path.now c.args.list.now c.in_ok-children.children c.args.stored.now c.in_err-stat.field-0.0 c.in_err-stat.ensures.cause c.in_ok-children.ensures.plain in
    search rules
