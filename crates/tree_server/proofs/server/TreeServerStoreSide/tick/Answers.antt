use Rattle.std.proofs.Common.{◌≡◌, ℤ, ◌∷◌, FitsSigned, ◌∙◌, ap, of_z, rules, sym, to_z, w64}
use Rattle.std.proofs.lemmas.Int.{to_z-of_z}
use Rattle.std.proofs.lemmas.Result.{err_from_is_err_and}
use Rattle.tree_server.proofs.TickCalls.{no_numbers, ticks_end, ticks_nothing, ticks_on, ticks_start, ticks_stop}
use Rattle.tree_server.proofs.server.TreeServerStoreSide.tick.Goals as goal

pub returns-in_err-flush : goal.returns-in_err-flush
returns-in_err-flush g c =
    let p = err_from_is_err_and c.from_residual.result c.from_residual.ensures.1 in
    rw p.1 (λ past st. ticks_nothing _ _ _ _ _ _ _ c.args.now past st past.written (c.in_err-flush.ensures.err past st.both.lines_are).1)

pub returns-in_err-session-items : goal.returns-in_err-session-items
returns-in_err-session-items g c =
    let p = err_from_is_err_and c.from_residual-in_err-session-items.result c.from_residual-in_err-session-items.ensures.1 in
    rw p.1 (λ past st. ticks_nothing _ _ _ _ _ _ _ c.args.now past st _ (c.in_ok-flush.ensures.ok past st.both.lines_are))

pub loop-session-init : goal.loop-session-init
loop-session-init g c =
    let n : FitsSigned w64 c.args.now = c.ranges.now in
    λ past st. ticks_start _ _ _ _ _ _ _ _ past st _ _ (c.in_ok-flush.ensures.ok past st.both.lines_are)
    c.into_iter-session-iterator.ensures.into_iter_gives.0 c.in_ok-session-items.ensures.ascending
    (c.in_ok-session-items.ensures.up past st.both.machine)

pub loop-session-preserved : goal.loop-session-preserved
loop-session-preserved g c =
    let s : FitsSigned w64 c.in-Some.session = search rules in
    let same : to_z w64 (of_z w64 c.in-Some.session) ≡ c.in-Some.session = search (rules, to_z-of_z) in
    λ past st. ticks_on _ _ _ _ _ _ _ _ _ _ _ _ _ past _ _ _ (c.loop-session.invariant past st)
    (c.in-Some.ensures.steps.0 ∙ ap (λ (z : ℤ). z ∷ c.next.new.self.rest.items) (sym same)) c.in_ok-expire.ensures.ended

pub returns-in_err-expire : goal.returns-in_err-expire
returns-in_err-expire g c =
    let n : FitsSigned w64 c.args.now = c.ranges.now in
    let s : FitsSigned w64 c.in-Some.session = search rules in
    let p = err_from_is_err_and c.from_residual-in_err-expire.result c.from_residual-in_err-expire.ensures.1 in
    rw p.1 (λ past st. ticks_stop _ _ _ _ _ _ _ _ _ _ _ _ _ past _ _ _ ((simp to_z-of_z at c.loop-session.invariant) past st) c.in-Some.ensures.steps.0
    (simp to_z-of_z at c.in_err-expire.ensures.memory))

pub returns : goal.returns
returns g c =
    let n : FitsSigned w64 c.args.now = c.ranges.now in
    λ past st. ticks_end _ _ _ _ _ _ c.args.now past _ ((simp to_z-of_z at c.loop-session.invariant) past st)
    (no_numbers _ _ c.loop-session.session-iterator.rest.ok.0 c.in-None.ensures.steps.0)
