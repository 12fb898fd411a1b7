use Rattle.std.proofs.Common.{FitsSigned, ◌∙◌, rules, sym, w64}
use Rattle.std.proofs.lemmas.Int.{to_z-of_z}
use Rattle.store_side.specs.Past.{state_of}
use Rattle.tree_server.proofs.server.take.Goals as goal

pub returns-in_ok-take_request-in-Some-clause-taken : goal.returns-in_ok-take_request-in-Some-clause-taken
returns-in_ok-take_request-in-Some-clause-taken g c =
    let n : FitsSigned w64 c.args.now = c.ranges.now in
    let k : FitsSigned w64 c.in-Some.session = search rules in
    λ past st none. (simp to_z-of_z at c.in_ok-take_request-in-Some.ensures.taken) past st (sym (c.session_of.ensures (state_of past) st.means) ∙ c.in-Some.is)

pub returns-in_ok-take_connect-in-None-clause-taken : goal.returns-in_ok-take_connect-in-None-clause-taken
returns-in_ok-take_connect-in-None-clause-taken g c =
    let n : FitsSigned w64 c.args.now = c.ranges.now in
    λ past st none. (simp to_z-of_z at c.in_ok-take_connect-in-None.ensures.taken) past st (none (sym (c.session_of.ensures (state_of past) st.means) ∙ c.in-None.is))
