use Rattle.watch_rewrite.proofs.Shorter.{shorter_when_plain}
use Rattle.watch_rewrite.proofs.shorter_when_plain.Goals as goal

pub returns : goal.returns
returns c = shorter_when_plain
