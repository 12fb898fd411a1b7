use Rattle.zk_messages.proofs.ShortParts.{short_when_read}
use Rattle.zk_messages.proofs.laws.short_when_read.Goals as goal

pub returns : goal.returns
returns c = short_when_read
