use Rattle.reply_rewrite.proofs.NoLonger.{no_longer}
use Rattle.reply_rewrite.proofs.no_longer_when_plain.Goals as goal

pub returns : goal.returns
returns c = no_longer
