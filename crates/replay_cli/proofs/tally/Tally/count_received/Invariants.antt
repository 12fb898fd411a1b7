use Rattle.std.proofs.Common.{length}
use Rattle.replay_cli.proofs.TallyLemmas.{Counts}
use Rattle.replay_cli.proofs.tally.Tally.count_received.Given as goal

abbrev pub invariant-loop-body : goal.invariant-loop-body
invariant-loop-body l = Counts l.received l.left l.fn.self l.tally

abbrev pub decreases-loop-body : goal.decreases-loop-body
decreases-loop-body l = length l.left
