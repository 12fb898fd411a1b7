use Rattle.reply_rewrite.proofs.Paths.{made_from_stem}
use Rattle.reply_rewrite.proofs.names.is_made_for.Goals as goal

pub returns-in-Some : goal.returns-in-Some
returns-in-Some c = made_from_stem _ _ _ _ _ c.if-not-sequential.false (rw c.in-Some.is at c.in_ok-stem.ensures.some) c.same-in-Some.ensures
