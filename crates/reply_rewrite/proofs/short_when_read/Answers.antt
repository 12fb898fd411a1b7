use Rattle.reply_rewrite.proofs.WhenRead.{short_when_read}
use Rattle.reply_rewrite.proofs.short_when_read.Goals as goal

pub returns : goal.returns
returns c = short_when_read
