use Rattle.std.proofs.Common.{◌∙◌}
use Rattle.reply_rewrite.proofs.Opening.{is_known}
use Rattle.reply_rewrite.proofs.children.add_opened.Goals as goal

pub returns : goal.returns
returns c = is_known _ _ _ _ _ _ _ c.in_ok-insert.ensures.added c.if-branch.false (rw (c.in-Some.is, c.as_str.ensures) at c.in_ok-name.ensures.some) (c.in_ok-from_str.ensures.ok ∙ c.as_str-2.ensures)
