use Rattle.reply_rewrite.proofs.Once.{at_most_one}
use Rattle.reply_rewrite.proofs.Some.{at_least_one}
use Rattle.reply_rewrite.proofs.admitted_once.Goals as goal

pub returns : goal.returns
returns c = record { at_most_one = at_most_one; at_least_one = at_least_one }
