use Rattle.audit_board.proofs.board.Seat.note.Goals as goal

pub returns-clause-noted : goal.returns-clause-noted
returns-clause-noted g c = record { answer = c.note_in.result; takes = c.note_in.ensures.list; cause = c.note_in.ensures.cause }
