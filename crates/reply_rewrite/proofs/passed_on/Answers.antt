use Rattle.reply_rewrite.proofs.PassedOn.{passed_on}
use Rattle.reply_rewrite.proofs.passed_on.Goals as goal

pub returns : goal.returns
returns c = passed_on
