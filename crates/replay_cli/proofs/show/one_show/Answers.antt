use Rattle.replay_cli.proofs.OneShow.{one_show}
use Rattle.replay_cli.proofs.show.one_show.Goals as goal

pub returns : goal.returns
returns c = one_show
