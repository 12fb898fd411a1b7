use Rattle.std.proofs.Common.{sym}
use Rattle.replay_cli.proofs.LineLemmas.{cut_some, cut_none}
use Rattle.replay_cli.proofs.lines.first_line.Goals as goal

pub returns-in-Some : goal.returns-in-Some
returns-in-Some c = rw (c.split_at.ensures.front, c.split_at-in-Some.ensures.back) (cut_some _ _ (sym c.in-Some.ensures.place))

pub returns-in-None : goal.returns-in-None
returns-in-None c = cut_none _ (sym c.in-None.ensures.place)
