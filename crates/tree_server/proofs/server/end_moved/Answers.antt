use Rattle.std.proofs.Common.{FitsSigned, refl, rules, w64}
use Rattle.std.proofs.lemmas.Int.{to_z-of_z}
use Rattle.tree_server.proofs.OverLines.{moved_none, moved_some}
use Rattle.tree_server.proofs.server.end_moved.Goals as goal

pub returns-in-Some : goal.returns-in-Some
returns-in-Some c =
    let f : FitsSigned w64 c.in-Some.moved.session = search rules in
    rw c.in-Some.is (λ past lines inside.
    moved_some c.args.lines.now c.end.new.self past c.in-Some.moved lines ((simp to_z-of_z at c.end.ensures.ends) past lines (inside c.in-Some.moved refl)) (λ f h. c.end.ensures.over past f lines h))

pub returns-in_default : goal.returns-in_default
returns-in_default c = rw c.in_default.is (λ past lines inside. moved_none c.args.lines.now past lines)
