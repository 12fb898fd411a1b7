use Rattle.std.proofs.Common.{◌∙◌, FitsSigned, rules, w64}
use Rattle.std.proofs.lemmas.Int.{to_z-of_z}
use Rattle.tree_state.proofs.Connected.{heard_so}
use Rattle.tree_state.proofs.SessionsKept.{must_be_found}
use Rattle.tree_state.proofs.session.Sessions.heard.Goals as goal

pub returns-in-Some : goal.returns-in-Some
returns-in-Some c = λ xs owned x keeps live.
    let f : FitsSigned w64 c.in-Some.live.now.heard = search rules in
    to_z-of_z w64 c.in-Some.live.now.heard f
    ∙ heard_so c.args.self.now _ c.args.session c.in-Some.live.now x xs owned (to_z-of_z w64 c.args.session c.ranges.session) c.in-Some.ensures.value keeps live

pub returns-in-None : goal.returns-in-None
returns-in-None c = λ xs owned x keeps live.
    absurd (must_be_found c.args.self.now _ c.args.session x xs owned (to_z-of_z w64 c.args.session c.ranges.session) c.in-None.ensures.value keeps live)
