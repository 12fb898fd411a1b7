use Rattle.std.proofs.Common.{sym}
use Rattle.audit_board.proofs.TellingLemmas.{told_in_turn}
use Rattle.audit_board.proofs.board.tell_all.Goals as goal

pub returns : goal.returns
returns g c = told_in_turn _ _ _ _ _ (λ x b t y h. (rw (sym h.shows, sym h.leaves) h.called.met.0, h.called.met.1)) _ _ c.retain_mut.ensures.filtered
