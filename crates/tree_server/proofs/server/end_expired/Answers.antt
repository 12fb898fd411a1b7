use Rattle.std.proofs.Common.{FitsSigned, refl, w64}
use Rattle.std.proofs.lemmas.Int.{to_z-of_z}
use Rattle.tree_server.proofs.Expiring.{expired_none, expired_some}
use Rattle.tree_server.proofs.server.end_expired.Goals as goal

pub returns-in-Some : goal.returns-in-Some
returns-in-Some c =
    let f : FitsSigned w64 c.args.session = c.ranges.session in
    rw c.in-Some.is (λ past lines inside.
    expired_some c.args.lines.now c.end.new.self c.args.session past c.in-Some.connection lines ((simp to_z-of_z at c.end.ensures.ends) past lines (inside c.in-Some.connection refl)) (λ f h. c.end.ensures.over past f lines h))

pub returns-in_default : goal.returns-in_default
returns-in_default c = rw c.in_default.is (λ past lines inside. expired_none c.args.lines.now c.args.session past lines)
