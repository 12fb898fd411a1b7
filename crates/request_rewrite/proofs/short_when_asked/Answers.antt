use Rattle.request_rewrite.proofs.Written.{short_when_asked}
use Rattle.request_rewrite.proofs.short_when_asked.Goals as goal

pub returns : goal.returns
returns c = short_when_asked
