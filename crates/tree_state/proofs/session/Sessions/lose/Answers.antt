use Rattle.std.proofs.Common.{FitsSigned, w64, rules, refl}
use Rattle.std.proofs.lemmas.Int.{to_z-of_z}
use Rattle.tree_state.proofs.SessionsEnded.{lost, nothing_to_lose, must_be_live}
use Rattle.tree_state.proofs.session.Sessions.lose.Goals as goal

pub returns-in-Some-get_mut : goal.returns-in-Some-get_mut
returns-in-Some-get_mut c = λ xs owned keeps.
    let f : FitsSigned w64 c.in-Some.session = search rules in
    lost c.args.self.now _ c.remove.new.self c.args.connection _ c.in-Some.session c.in-Some-get_mut.live.now _ xs owned c.in-Some.ensures.value (to_z-of_z w64 c.in-Some.session f)
    c.in-Some-get_mut.ensures.ordered c.in-Some-get_mut.ensures.value (c.get_mut.follows.holds _) refl c.in-Some.ensures.updates keeps

pub returns-in_default : goal.returns-in_default
returns-in_default c = λ xs owned keeps.
    nothing_to_lose c.args.self.now c.args.self.now.live c.remove.new.self c.args.connection xs owned refl c.in_default.ensures.value c.in_default.ensures.unchanged keeps

pub returns-in_default-get_mut : goal.returns-in_default-get_mut
returns-in_default-get_mut c = λ xs owned keeps.
    let f : FitsSigned w64 c.in-Some.session = search rules in
    absurd (must_be_live c.args.self.now c.args.connection _ c.in-Some.session xs owned c.in-Some.ensures.value (to_z-of_z w64 c.in-Some.session f)
    c.in_default-get_mut.ensures.ordered c.in_default-get_mut.ensures.value keeps)
