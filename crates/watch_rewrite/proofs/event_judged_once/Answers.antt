use Rattle.watch_rewrite.proofs.Judged.{judged_once}
use Rattle.watch_rewrite.proofs.event_judged_once.Goals as goal

pub returns : goal.returns
returns c = judged_once
