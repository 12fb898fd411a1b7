use Rattle.std.proofs.Common.{refl, ap, ◌∙◌, take, drop, suc}
use Rattle.audit_board.proofs.TellingLemmas.{numbered_without, parts_at}
use Rattle.audit_board.proofs.board.Board.remove.Goals as goal

pub invariant_of-self : goal.invariant_of-self
invariant_of-self g c = record {
  numbered = rw c.remove.ensures.items (numbered_without 0 _ c.in_ok-place.place _ c.args.self.now.numbered);
  counted = c.args.self.now.counted;
}

pub returns-clause-taken : goal.returns-clause-taken
returns-clause-taken g c =
    let at = rw c.deref.ensures.value at c.in_ok-place.ensures.place in
    record {
      front = take c.in_ok-place.place c.args.self.now.seats.items;
      seat = c.remove.result;
      back = drop (suc c.in_ok-place.place) c.args.self.now.seats.items;
      was = parts_at _ c.in_ok-place.place c.remove.result at.0 c.remove.ensures.value;
      now = c.remove.ensures.items;
      numbered = ap (λ s. s.number) c.remove.ensures.value ∙ at.1 c.remove.result;
      handed = refl;
    }
