use Rattle.std.proofs.Common.{FitsSigned, rules, w32, w64}
use Rattle.std.proofs.lemmas.Int.{to_z-of_z}
use Rattle.tree_state.proofs.SessionsEnded.{live_so, not_live}
use Rattle.tree_state.proofs.session.Sessions.session.Goals as goal

pub returns-in-Some : goal.returns-in-Some
returns-in-Some c = λ xs owned keeps.
    let f : FitsSigned w32 c.in-Some.live.now.timeout = search rules in
    let g : FitsSigned w64 c.in-Some.live.now.heard = search rules in
    live_so c.args.self.now _ c.args.session c.in-Some.live.now _ _ xs owned (to_z-of_z w64 c.args.session c.ranges.session) (to_z-of_z w32 c.in-Some.live.now.timeout f) (to_z-of_z w64 c.in-Some.live.now.heard g) c.in-Some.ensures.value keeps

pub returns-in-None : goal.returns-in-None
returns-in-None c = λ xs owned keeps.
    not_live c.args.self.now _ c.args.session xs owned (to_z-of_z w64 c.args.session c.ranges.session) c.in-None.ensures.value keeps
