use Rattle.std.proofs.Common.{rules, refl}
use Rattle.audit_board.proofs.TellingLemmas.{has_number_at, none_so_far}
use Rattle.audit_board.proofs.board.place_of.Goals as goal

pub returns-then-seat-number-clause-found : goal.returns-then-seat-number-clause-found
returns-then-seat-number-clause-found g c =
    (λ _. has_number_at _ _ c.loop-place.place c.index-seats-place.result c.loop-place-test.true c.index-seats-place.is (search rules), λ _. refl)

pub loop-place-preserved : goal.loop-place-preserved
loop-place-preserved g c =
    none_so_far _ _ c.loop-place.place c.index-seats-place.result c.loop-place-test.true c.index-seats-place.is c.loop-place.invariant (search rules)
