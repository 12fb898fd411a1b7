use Rattle.replay_cli.proofs.TallyLemmas.{first_frame, last_frame, next_frame, no_frame, shorter}
use Rattle.replay_cli.proofs.tally.Tally.count_received.Goals as goal

pub returns-in_default : goal.returns-in_default
returns-in_default c = no_frame _ _ c.in_default.ensures.none

pub loop-body-init : goal.loop-body-init
loop-body-init c = first_frame _ _ _ _ c.in-Some.ensures.whole.0 c.in-Some.ensures.whole.1

pub loop-body-smaller : goal.loop-body-smaller
loop-body-smaller c = shorter _ _ _ c.in-Some-split_frame.ensures.whole.1

pub loop-body-preserved : goal.loop-body-preserved
loop-body-preserved c = next_frame _ _ _ _ _ _ _ c.loop-body.invariant c.in-Some-split_frame.ensures.whole.0 c.in-Some-split_frame.ensures.whole.1 c.count-tally.ensures

pub returns : goal.returns
returns c = last_frame _ _ _ _ c.loop-body.invariant c.in_default-split_frame.ensures.none
