use Rattle.tree_state.proofs.Alone.{alone_done}
use Rattle.tree_state.proofs.RoomLeft.{left_room}
use Rattle.tree_state.proofs.held.alone.Goals as goal

pub returns-in-Ok-clause-answers : goal.returns-in-Ok-clause-answers
returns-in-Ok-clause-answers c = λ s t h before sent room on p. rw (c.outcome.ensures) (alone_done s t h before sent _ (rw (c.in-Ok.is) at on) (rw (c.in-Ok.is) at p))

pub returns-in-Ok-clause-kept : goal.returns-in-Ok-clause-kept
returns-in-Ok-clause-kept c = λ s h before sent room on m quiet. left_room s h sent _ (rw (c.in-Ok.is) at on)

pub returns-in-Err-clause-answers : goal.returns-in-Err-clause-answers
returns-in-Err-clause-answers c = λ s t h before sent room on p. c.stopped.ensures.answers s t h before sent room (rw (c.in-Err.is) at p)

pub returns-in-Err-clause-kept : goal.returns-in-Err-clause-kept
returns-in-Err-clause-kept c = λ s h before sent room on m quiet. c.stopped.ensures.kept s h before sent room (rw (c.in-Err.is) at m) (rw (c.in-Err.is) at quiet)
