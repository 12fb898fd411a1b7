use Rattle.std.proofs.Common.{ℕ, FitsSigned, subst, w64}
use Rattle.std.proofs.lemmas.Int.{to_z-of_z}
use Rattle.std.proofs.lemmas.Result.{err_from_is_err_and}
use Rattle.tree_server.specs.Servers.{CutsFrame}
use Rattle.tree_server.proofs.Cutting.{begins_frame, cuts_frame, keeps_part}
use Rattle.tree_server.proofs.Served.{not_fed, ends_at_frame, same_count}
use Rattle.tree_server.proofs.server.TreeServer.take_next.Goals as goal

pub returns-in_err-count-clause-ends : goal.returns-in_err-count-clause-ends
returns-in_err-count-clause-ends g c =
    let p = err_from_is_err_and c.from_residual.result c.from_residual.ensures.1 in
    λ limit. rw (p.1, p.2) (λ past st admitted on empty written.
    not_fed _ _ _ _ _ _ c.args.framer.now c.args.piece.now c.args.connection c.args.now past _ limit c.in_err-count.ensures.err st admitted written)

pub returns-in_default-clause-none : goal.returns-in_default-clause-none
returns-in_default-clause-none g c = λ e. (keeps_part _ _ _ _ c.in_ok-count.ensures.taken c.in_ok-count.ensures.open c.in_default.ensures.rest, λ past st. st)

pub returns-in_err-take_frame-clause-ends : goal.returns-in_err-take_frame-clause-ends
returns-in_err-take_frame-clause-ends g c =
    let n : FitsSigned w64 c.args.now = c.ranges.now in
    let p = err_from_is_err_and c.from_residual-in_err-take_frame.result c.from_residual-in_err-take_frame.ensures.1 in
    λ limit. rw (p.1, p.2) (λ past st admitted on empty written.
    ends_at_frame _ _ _ _ _ _ c.args.framer.now c.args.piece.now c.args.connection c.args.now c.in-Some.body.now past _ limit
    (begins_frame _ _ _ _ _ c.in_ok-count.ensures.taken c.in-Some.ensures.some)
    ((simp to_z-of_z at c.in_err-take_frame.ensures.ends) past st admitted on empty written))

pub returns-clause-some : goal.returns-clause-some
returns-clause-some g c =
    let n : FitsSigned w64 c.args.now = c.ranges.now in
    λ count e. (
      c.in-Some.body.now,
      subst (λ (x : ℕ). CutsFrame c.args.framer.now c.end_frame.new.self c.args.piece.now x c.in-Some.body.now) (same_count _ _ e)
          (cuts_frame _ _ _ _ _ _ c.end_frame.result c.in_ok-count.ensures.taken c.in-Some.ensures.some c.end_frame.ensures.ended c.end_frame.ensures.rest),
      λ past st admitted on empty written. (simp to_z-of_z at c.in_ok-take_frame.ensures.taken) past st admitted on empty written,
    )
