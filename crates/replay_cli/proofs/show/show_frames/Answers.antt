use Rattle.std.proofs.Common.{arith}
use Rattle.replay_cli.proofs.ShowLemmas.{same_start, same_more, same_end, shorter}
use Rattle.replay_cli.proofs.show.show_frames.Goals as goal

pub loop-text-init : goal.loop-text-init
loop-text-init c = same_start _ _ c.new-text.ensures.bytes

pub overflow_add-number : goal.overflow_add-number
overflow_add-number c =
    let less = shorter _ _ _ _ _ _ (rw c.in-Some.is at c.in_ok-more.ensures) in
    omega (arith, less, c.loop-text.invariant.within)

pub loop-text-smaller : goal.loop-text-smaller
loop-text-smaller c = shorter _ _ _ _ _ _ (rw c.in-Some.is at c.in_ok-more.ensures)

pub loop-text-preserved : goal.loop-text-preserved
loop-text-preserved c = same_more _ _ _ _ _ _ (rw c.in-Some.is at c.in_ok-more.ensures) c.loop-text.invariant

pub returns : goal.returns
returns c = same_end _ _ _ _ _ (rw c.in_default.is at c.in_ok-more.ensures) c.loop-text.invariant
