use Rattle.tree_server.proofs.AnswerLengths.{cannot_full, cannot_long, is_other, place_left, place_unneeded}
use Rattle.tree_server.proofs.machine.Machine.may_take.Goals as goal
use Rattle.tree_server.proofs.machine.Machine.may_take.Goals.{else-not-is_close-via-then-not-is_close+else-not-has_room, else-not-is_close-via-else-not-is_close}

pub returns-then-not-has_room-clause-cannot : goal.returns-then-not-has_room-clause-cannot
returns-then-not-has_room-clause-cannot g c = λ s m.
    cannot_full c.args.self.now.books s c.args.request.now _ (c.answer_length-length.ensures s m)
    (is_other c.args.request.now _ c.is_close.ensures c.if-not-is_close.true) (c.has_room.ensures.no c.if-not-has_room.true)

pub returns-then-length-gt2147483647-clause-cannot : goal.returns-then-length-gt2147483647-clause-cannot
returns-then-length-gt2147483647-clause-cannot g c = λ s m.
    cannot_long c.args.self.now.books s c.args.request.now _ (c.answer_length-length.ensures s m) c.if-length-gt2147483647.true
    (elim c.else-not-is_close.branch [
      | else-not-is_close-via-then-not-is_close+else-not-has_room w ↦
          place_left c.args.self.now.books c.args.request.now _ w.has_room.ensures.yes w.if-not-has_room.false
      | else-not-is_close-via-else-not-is_close w ↦
          place_unneeded c.args.self.now.books c.args.request.now _ c.is_close.ensures w.if-not-is_close.false
    ])
