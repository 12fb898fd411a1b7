use Rattle.std.proofs.Common.{Err, ap, refl, length, FitsSigned, w32, rules, OnOk}
use Rattle.std.proofs.lemmas.Int.{to_z-of_z}
use Rattle.std.proofs.lemmas.Result.{err_from_is_err_and}
use Rattle.entry_session.specs.Frames.{HandsUp}
use Rattle.entry_session.proofs.ClientSide.{request_refused, queue_full, request_answered}
use Rattle.entry_session.proofs.progress.Progress.hear_request.Goals as goal

pub returns-in_err-xid-clause-hears : goal.returns-in_err-xid-clause-hears
returns-in_err-xid-clause-hears c =
    let p = err_from_is_err_and c.from_residual.result c.from_residual.ensures.1 in
    rw (p.1, p.2) (λ not s g n. request_refused _ _ _ s _ _ g c.requires.phase (λ m. not (ap Err m)) c.in_err-xid.ensures.refused)

pub returns-in_err-has_room-clause-hears : goal.returns-in_err-has_room-clause-hears
returns-in_err-has_room-clause-hears c =
    let p = err_from_is_err_and c.from_residual-in_err-has_room.result c.from_residual-in_err-has_room.ensures.1 in
    let e = c.in_err-has_room.ensures.err in
    rw (p.1, p.2) (λ not s g n. queue_full _ _ _ s _ _ _ _ _ g c.requires.phase c.in_ok-xid.ensures.read refl e.0 e.1)

pub returns-clause-hears : goal.returns-clause-hears
returns-clause-hears c =
    let f : FitsSigned w32 c.in_ok-xid.xid = search rules in
    let h = c.hand_up.ensures in
    let ok : OnOk c.hand_up.result (HandsUp c.args.self.now c.hand_up.new.self c.in_ok-xid.xid c.in_ok-xid.request (length c.args.body.now) c.args.up.now.items c.hand_up.new.up.items) = (simp to_z-of_z at h.ok) in
    λ out_of s g none. request_answered _ _ _ s _ _ _ _ _ _ g none c.requires.phase c.in_ok-xid.ensures.read c.requires.short refl c.in_ok-has_room.ensures.ok out_of ok h.err
