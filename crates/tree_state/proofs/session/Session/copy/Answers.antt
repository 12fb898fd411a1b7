use Rattle.std.proofs.Common.{FitsSigned, w32, w64, rules, refl}
use Rattle.std.proofs.lemmas.Int.{to_z-of_z}
use Rattle.tree_state.proofs.CopiedSessions.{session_copied}
use Rattle.tree_state.proofs.session.Session.copy.Goals as goal

pub returns : goal.returns
returns c =
    let t : FitsSigned w32 c.args.self.now.timeout = search rules in
    let h : FitsSigned w64 c.args.self.now.heard = search rules in
    session_copied c.args.self.now _ (to_z-of_z w32 c.args.self.now.timeout t) refl (to_z-of_z w64 c.args.self.now.heard h) refl c.in_ok-clone.ensures.cases.0
