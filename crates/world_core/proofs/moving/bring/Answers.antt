use Rattle.std.proofs.Common.{ℕ, List, ◌++◌, ◌∙◌, ap}
use Rattle.world_core.specs.Steps.{first_of}
use Rattle.world_core.proofs.OneSpot.{brings_nothing, brings_some, goes_on, has_ended}
use Rattle.world_core.proofs.moving.bring.Goals as goal

pub returns-then-is_some : goal.returns-then-is_some
returns-then-is_some g c = λ k boot s st a keeps.
    brings_nothing _ k boot c.args.number c.args.amount s _ (has_ended _ _ _ c.is_some.ensures c.if-is_some.true (c.ending.ensures ∙ keeps.at.ending)) st keeps

pub returns : goal.returns
returns g c = λ k boot s st a keeps.
    let p = c.in_ok-pull.ensures s.past st a in
    let none = goes_on _ _ _ c.is_some.ensures c.if-is_some.false (c.ending.ensures ∙ keeps.at.ending) in
    brings_some _ k boot c.args.number c.args.amount s c.hear_store.new.self _ c.as_slice.result.now none a
    (c.as_slice.ensures.value ∙ p.0 ∙ ap (λ (b : List ℕ). b ++ first_of c.args.amount (s.past.waiting c.args.number)) c.new-piece.ensures.items)
    p.1
    (c.in_ok-hear_store.ensures k boot c.args.number _ _ keeps none) (λ b. c.end_over.ensures k boot b)
