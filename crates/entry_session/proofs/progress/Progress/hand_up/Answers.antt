use Rattle.std.proofs.Common.{◌≡◌, ◌+◌, refl, sym, subst, FitsSigned, w32}
use Rattle.std.proofs.lemmas.Int.{to_z-of_z}
use Rattle.std.proofs.lemmas.Result.{err_from_is_err_and}
use Rattle.entry_session.specs.Kept.{AreShort}
use Rattle.entry_session.proofs.ClientSide.{read_short, veil_failed, writable_at, fits_at, left_over, handed, same_one, taken_source, taken_connection, asked_short}
use Rattle.entry_session.proofs.progress.Progress.hand_up.Goals as goal

pub veil_request-requires-clause-short : goal.veil_request-requires-clause-short
veil_request-requires-clause-short c = read_short _ _ _ c.requires.read

pub returns-in_err-veiled-clause-err : goal.returns-in_err-veiled-clause-err
returns-in_err-veiled-clause-err c =
    let p = err_from_is_err_and c.from_residual.result c.from_residual.ensures.1 in
    rw (p.1, p.2) (veil_failed _ _ _ _ _ _ _ _ _ c.self.view_is c.in_err-veiled.was c.veil_request.ensures.spent c.veil_request.ensures.counted, refl)

pub push_both-requires-clause-writable : goal.push_both-requires-clause-writable
push_both-requires-clause-writable c =
    let f : FitsSigned w32 c.args.xid = c.ranges.xid in
    let h = c.in_ok-veiled.ensures in
    let x : c.in_ok-veiled.pending.xid ≡ c.args.xid = (simp to_z-of_z at h.xid) in
    writable_at _ _ h.counted.0 _ _ _ _ _ x c.requires.read (h.veiled h.counted.0 h.counted.1)

pub push_both-requires-clause-fits : goal.push_both-requires-clause-fits
push_both-requires-clause-fits c =
    let f : FitsSigned w32 c.args.xid = c.ranges.xid in
    let h = c.in_ok-veiled.ensures in
    let x : c.in_ok-veiled.pending.xid ≡ c.args.xid = (simp to_z-of_z at h.xid) in
    fits_at _ _ h.counted.0 _ _ _ _ _ x c.requires.read (h.veiled h.counted.0 h.counted.1)

pub invariant_of-self-in_err-push_both : goal.invariant_of-self-in_err-push_both
invariant_of-self-in_err-push_both c =
    let h = c.in_ok-veiled.ensures in
    let i = c.self.invariant in
    let n = h.counted.0 in
    let p = h.counted.1 in
    let e = h.taken n p in
    let left = left_over _ _ _ _ c.in_ok-veiled.was (c.veil_request.ensures.spent n p) in
    (taken_source _ _ _ (c.self.inside.ivs.count + n) e left i.0, taken_connection c.self.inside.ivs _ (c.self.inside.ivs.count + n) _ e i.1, subst AreShort (sym c.in_err-push_both.ensures.err.0) i.2)

pub returns-in_err-push_both-clause-same : goal.returns-in_err-push_both-clause-same
returns-in_err-push_both-clause-same c =
    let h = c.in_ok-veiled.ensures in
    same_one _ _ _ _ _ _ _ _ _ _ c.self.view_is (h.taken h.counted.0 h.counted.1)

pub invariant_of-self-2 : goal.invariant_of-self-2
invariant_of-self-2 c =
    let h = c.in_ok-veiled.ensures in
    let i = c.self.invariant in
    let n = h.counted.0 in
    let p = h.counted.1 in
    let e = h.taken n p in
    let left = left_over _ _ _ _ c.in_ok-veiled.was (c.veil_request.ensures.spent n p) in
    (taken_source _ _ _ (c.self.inside.ivs.count + n) e left i.0, taken_connection c.self.inside.ivs _ (c.self.inside.ivs.count + n) _ e i.1, asked_short _ _ _ _ _ _ c.requires.read h.asks c.in_ok-push_both.ensures.queued i.2)

pub returns-clause-ok : goal.returns-clause-ok
returns-clause-ok c =
    let f : FitsSigned w32 c.args.xid = c.ranges.xid in
    let h = c.in_ok-veiled.ensures in
    let n = h.counted.0 in
    let p = h.counted.1 in
    let x : c.in_ok-veiled.pending.xid ≡ c.args.xid = (simp to_z-of_z at h.xid) in
    let left = left_over _ _ _ _ c.in_ok-veiled.was (c.veil_request.ensures.spent n p) in
    handed _ _ _ _ _ _ _ _ _ _ _ _ _ _ _ n c.self.view_is c.self.invariant.0.greatest p left (h.veiled n p) (h.taken n p) c.in_ok-push_both.ensures.queued c.in_ok-push_both.ensures.added h.asks x h.bytes

pub returns-clause-same : goal.returns-clause-same
returns-clause-same c =
    let h = c.in_ok-veiled.ensures in
    same_one _ _ _ _ _ _ _ _ _ _ c.self.view_is (h.taken h.counted.0 h.counted.1)
