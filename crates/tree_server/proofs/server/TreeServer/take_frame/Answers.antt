use Rattle.std.proofs.Common.{FitsSigned, ap, w64}
use Rattle.std.specs.Prelude.{is_ok}
use Rattle.std.proofs.lemmas.Int.{to_z-of_z}
use Rattle.std.proofs.lemmas.Result.{err_from_is_err_and}
use Rattle.tree_server.specs.Servers.{with_moved}
use Rattle.tree_server.proofs.Served.{first_frame, not_taken, took_one, took_last, took_untold}
use Rattle.tree_server.proofs.server.TreeServer.take_frame.Goals as goal

pub returns-in_err-taken-clause-ends : goal.returns-in_err-taken-clause-ends
returns-in_err-taken-clause-ends g c =
    let n : FitsSigned w64 c.args.now = c.ranges.now in
    let p = err_from_is_err_and c.from_residual.result c.from_residual.ensures.1 in
    rw (p.1, p.2) (λ past st admitted on empty written.
    let h = (simp to_z-of_z at c.in_err-taken.ensures.refused) past st.both.machine (first_frame c.args.connection past st.sound on) in
    not_taken _ _ _ _ _ _ _ _ _ _ _ c.args.connection c.args.now c.args.body.now past _ st admitted written h.0 h.1)

pub returns-in_default-clause-ends : goal.returns-in_default-clause-ends
returns-in_default-clause-ends g c =
    let n : FitsSigned w64 c.args.now = c.ranges.now in
    λ past st admitted on empty written.
    let h = (simp to_z-of_z at c.in_ok-taken.ensures.taken) past st.both.machine (first_frame c.args.connection past st.sound on) in
    took_untold _ _ _ _ _ _ _ _ _ _ _ c.end_moved.new.lines c.send.new.self c.args.connection c.args.now c.args.body.now c.in_ok-taken.taken.outputs c.in_ok-taken.taken.moved c.in_ok-taken.taken.ending (is_ok c.send.result)
    past h.0 st admitted on written h.1 h.2 (c.end_moved.ensures past st.both.lines_are)
    (λ are all can outside. c.send.ensures (with_moved c.in_ok-taken.taken.moved past) are all can (λ d out_of. outside d (λ i. out_of (record { from = i.from; below = i.below }))))

pub returns-in-None-clause-taken : goal.returns-in-None-clause-taken
returns-in-None-clause-taken g c =
    let n : FitsSigned w64 c.args.now = c.ranges.now in
    λ past st admitted on empty written.
    let h = (simp to_z-of_z at c.in_ok-taken.ensures.taken) past st.both.machine (first_frame c.args.connection past st.sound on) in
    took_one _ _ _ _ _ _ _ _ _ _ _ c.end_moved.new.lines c.send.new.self c.args.connection c.args.now c.args.body.now c.in_ok-taken.taken.outputs c.in_ok-taken.taken.moved c.in_ok-taken.taken.ending (is_ok c.send.result)
    past h.0 st admitted on written h.1 h.2 (c.end_moved.ensures past st.both.lines_are)
    (λ are all can outside. c.send.ensures (with_moved c.in_ok-taken.taken.moved past) are all can (λ d out_of. outside d (λ i. out_of (record { from = i.from; below = i.below })))) c.in-None.is (ap is_ok c.in-Ok.is)

pub returns-in-Some-clause-ends : goal.returns-in-Some-clause-ends
returns-in-Some-clause-ends g c =
    let n : FitsSigned w64 c.args.now = c.ranges.now in
    λ past st admitted on empty written.
    let h = (simp to_z-of_z at c.in_ok-taken.ensures.taken) past st.both.machine (first_frame c.args.connection past st.sound on) in
    took_last _ _ _ _ _ _ _ _ _ _ _ c.end_moved.new.lines c.send.new.self c.args.connection c.args.now c.args.body.now c.in_ok-taken.taken.outputs c.in_ok-taken.taken.moved c.in_ok-taken.taken.ending (is_ok c.send.result)
    past h.0 st admitted on written h.1 h.2 (c.end_moved.ensures past st.both.lines_are)
    (λ are all can outside. c.send.ensures (with_moved c.in_ok-taken.taken.moved past) are all can (λ d out_of. outside d (λ i. out_of (record { from = i.from; below = i.below })))) c.in-Some.ending c.in-Some.is (ap is_ok c.in-Ok.is)
