use Rattle.std.proofs.Common.{FitsSigned, w32, w64, rules, refl}
use Rattle.std.proofs.lemmas.Int.{to_z-of_z}
use Rattle.tree_state.proofs.SessionsMoved.{opened}
use Rattle.tree_state.proofs.session.Sessions.open.Goals as goal

pub returns-in-Ok-clause-ok : goal.returns-in-Ok-clause-ok
returns-in-Ok-clause-ok c = λ xs owned keeps free below own.
    let f : FitsSigned w64 c.args.given.now.session = search rules in
    let g : FitsSigned w32 c.args.given.now.timeout = search rules in
    opened c.args.self.now _ _ c.args.given.now c.args.now c.args.connection _ _ _ xs owned (to_z-of_z w64 c.args.given.now.session f) (to_z-of_z w64 c.args.given.now.session f)
    (to_z-of_z w32 c.args.given.now.timeout g) refl (to_z-of_z w64 c.args.now c.ranges.now) refl c.new.ensures.items c.in-Ok.ensures.was_ordered c.in-Ok.ensures.ordered c.in-Ok.ensures.entries c.in_ok-before.ensures.updates keeps free below own
