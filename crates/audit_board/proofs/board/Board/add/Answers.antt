use Rattle.std.proofs.Common.{arith}
use Rattle.audit_board.proofs.TellingLemmas.{numbered_added}
use Rattle.audit_board.proofs.board.Board.add.Goals as goal

pub invariant_of-self-2 : goal.invariant_of-self-2
invariant_of-self-2 g c = record {
  numbered = rw c.in_default.ensures.items (numbered_added 0 _ _ c.args.self.now.numbered);
  counted = omega (arith, c.requires);
}
