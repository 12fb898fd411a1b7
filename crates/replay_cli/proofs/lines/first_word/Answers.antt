use Rattle.std.proofs.Common.{sym}
use Rattle.replay_cli.proofs.LineLemmas.{word_cut, no_word}
use Rattle.replay_cli.proofs.lines.first_word.Goals as goal

pub returns-in_err-at-clause-none : goal.returns-in_err-at-clause-none
returns-in_err-at-clause-none c = rw c.from_residual.ensures (no_word _ (sym c.in_err-at.ensures.place))

pub returns-clause-found : goal.returns-clause-found
returns-clause-found c = rw (c.split_at.ensures.front, c.split_at-2.ensures.back) (word_cut _ _ (sym c.in_ok-at.ensures.place))
