use Rattle.std.proofs.Common.{rules, arith}
use Rattle.audit_board.proofs.TellingLemmas.{numbered_told, numbered_length, told_fewer}
use Rattle.audit_board.proofs.board.BoardTeller.tell.Goals as goal

pub invariant_of-self : goal.invariant_of-self
invariant_of-self g c = record { numbered = numbered_told _ _ _ 0 _ _ _ c.tell_all.ensures c.args.self.now.numbered; counted = c.args.self.now.counted }

pub overflow_sub-result : goal.overflow_sub-result
overflow_sub-result g c = let fewer = told_fewer _ _ _ _ _ c.tell_all.ensures in omega (arith, fewer, c.len.ensures, c.len-before.ensures)

pub overflow_cast-result : goal.overflow_cast-result
overflow_cast-result g c =
    let few = numbered_length 0 _ _ c.args.self.now.numbered in
    let fits = c.args.self.now.counted in
    search rules

pub returns-clause-gone : goal.returns-clause-gone
returns-clause-gone g c = let fewer = told_fewer _ _ _ _ _ c.tell_all.ensures in omega (arith, fewer, c.len.ensures, c.len-before.ensures)
