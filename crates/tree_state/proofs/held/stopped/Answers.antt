use Rattle.std.proofs.Common.{rules, sym, subst, w32}
use Rattle.std.specs.Int.RustNames.{FitsSigned}
use Rattle.std.proofs.lemmas.Int.{to_z-of_z}
use Rattle.tree_state.specs.Trees.{HasRoom}
use Rattle.tree_state.proofs.Alone.{alone_refused, alone_memory}
use Rattle.tree_state.proofs.RoomLeft.{left_room, left_held}
use Rattle.tree_state.proofs.held.stopped.Goals as goal

pub returns-in-Memory-clause-answers : goal.returns-in-Memory-clause-answers
returns-in-Memory-clause-answers c = λ s t h before sent room p. alone_memory s t h before sent _ (rw (c.in-Memory.is) at p)

pub returns-in-Memory-clause-kept : goal.returns-in-Memory-clause-kept
returns-in-Memory-clause-kept c = λ s h before sent room m quiet. left_held s h sent _ m

pub returns-in-Refused-clause-answers : goal.returns-in-Refused-clause-answers
returns-in-Refused-clause-answers c = λ s t h before sent room p.
    let f : FitsSigned w32 c.in-Refused.code = search rules in
    simp to_z-of_z (alone_refused s t h before sent c.in-Refused.code room (rw (c.in-Refused.is) at p))

pub returns-in-Refused-clause-kept : goal.returns-in-Refused-clause-kept
returns-in-Refused-clause-kept c = λ s h before sent room m quiet. left_room s h sent _ (subst HasRoom (sym (quiet c.in-Refused.code c.in-Refused.is)) room)
