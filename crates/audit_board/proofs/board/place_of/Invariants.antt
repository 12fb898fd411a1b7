use Rattle.std.proofs.Common.{take}
use Rattle.audit_board.specs.Telling.{HasNumber}
use Rattle.audit_board.proofs.board.place_of.Given as goal

abbrev pub invariant-loop-place : goal.invariant-loop-place
invariant-loop-place g l = HasNumber l.number (take l.place l.seats) → ⊥
