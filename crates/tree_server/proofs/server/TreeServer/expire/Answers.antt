use Rattle.std.proofs.Common.{FitsSigned, ap, inl, inr, w64}
use Rattle.std.specs.Prelude.{is_ok}
use Rattle.std.proofs.lemmas.Int.{to_z-of_z}
use Rattle.std.proofs.lemmas.Result.{err_from_is_err_and}
use Rattle.tree_server.specs.Servers.{with_expired}
use Rattle.tree_server.proofs.Expiring.{expires_told, expires_all}
use Rattle.tree_server.proofs.server.TreeServer.expire.Goals as goal

pub returns-in_err-ended-clause-memory : goal.returns-in_err-ended-clause-memory
returns-in_err-ended-clause-memory g c =
    let p = err_from_is_err_and c.from_residual.result c.from_residual.ensures.1 in
    rw p.1 (λ past st all over. inl (record { both = record { machine = c.in_err-ended.ensures.memory past st.both.machine; lines_are = st.both.lines_are }; sound = st.sound; plain = st.plain }))

pub returns-in_default-clause-memory : goal.returns-in_default-clause-memory
returns-in_default-clause-memory g c =
    let n : FitsSigned w64 c.args.now = c.ranges.now in
    let k : FitsSigned w64 c.args.session = c.ranges.session in
    λ past st all over.
    let h = (simp to_z-of_z at c.in_ok-ended.ensures.ended) past st.both.machine over in
    let r = expires_told _ _ _ _ _ _ _ _ _ _ _ c.end_expired.new.lines c.send.new.self c.args.session c.args.now c.in_ok-ended.ended.outputs c.in_ok-ended.ended.connection (is_ok c.send.result)
    past h.0 st h.1 h.2 ((simp to_z-of_z at c.end_expired.ensures) past st.both.lines_are)
    (λ are can outside. c.send.ensures (with_expired c.in_ok-ended.ended.connection c.args.session past) are all can (λ d out_of. outside d (λ i. out_of (record { from = i.from; below = i.below })))) in
    inr (r.0, r.1, r.3)

pub returns-clause-ended : goal.returns-clause-ended
returns-clause-ended g c =
    let n : FitsSigned w64 c.args.now = c.ranges.now in
    let k : FitsSigned w64 c.args.session = c.ranges.session in
    λ past st all over.
    let h = (simp to_z-of_z at c.in_ok-ended.ensures.ended) past st.both.machine over in
    expires_all _ _ _ _ _ _ _ _ _ _ _ c.end_expired.new.lines c.send.new.self c.args.session c.args.now c.in_ok-ended.ended.outputs c.in_ok-ended.ended.connection (is_ok c.send.result)
    past h.0 st h.1 h.2 ((simp to_z-of_z at c.end_expired.ensures) past st.both.lines_are)
    (λ are can outside. c.send.ensures (with_expired c.in_ok-ended.ended.connection c.args.session past) are all can (λ d out_of. outside d (λ i. out_of (record { from = i.from; below = i.below })))) (ap is_ok c.in-Ok.is)
