use Rattle.std.proofs.Common.{◌∙◌, ◌≡◌, ℤ, ◌+ℤ◌, pos, FitsSigned, of_z, to_z, rules, sym, ap, subst, w64}
use Rattle.std.specs.Int.{cast_signed}
use Rattle.std.proofs.lemmas.Int.{to_z-of_z}
use Rattle.tree_state.specs.Nodes.{ephemerals}
use Rattle.tree_state.specs.Step.{connects, given_to}
use Rattle.tree_state.specs.Trees.{Does}
use Rattle.tree_state.specs.declared.held.Held.{Held}
use Rattle.tree_state.specs.declared.session.Given.{Given}
use Rattle.tree_state.proofs.CountedChildren.{on_err}
use Rattle.tree_state.proofs.Connected.{connect_none, connect_failed, moved_so, opened_so, next_last}
use Rattle.tree_state.proofs.held.Held.connect.Goals as goal
use Rattle.tree_state.proofs.held.Held.connect.Goals.{then-is_live+in_ok-move_to, else-is_live+in_ok-open}

pub returns-then-given-eq0-clause-step : goal.returns-then-given-eq0-clause-step
returns-then-given-eq0-clause-step c = λ naming s means can.
    let f : FitsSigned w64 c.given-given.result.session = search rules in
    let given = c.given-given.ensures s.sessions (λ session. ephemerals session s.nodes) means.sessions
    ∙ ap (λ (z : ℤ). given_to s.sessions c.args.asked.now z c.args.password) (to_z-of_z w64 c.args.fresh c.ranges.fresh) in
    subst (λ (g : Given). Does naming s (connects c.args.connection c.args.asked.now g c.args.now) c.args.self.now c.in_ok-outputs.outputs) given
    (connect_none naming s c.args.connection c.args.asked.now c.given-given.result c.args.now c.args.self.now c.in_ok-outputs.outputs means
    (sym (to_z-of_z w64 c.given-given.result.session f) ∙ ap (cast_signed w64) c.if-given-eq0.true) c.in_ok-outputs.ensures)

pub returns-in_err-move_to-clause-memory : goal.returns-in_err-move_to-clause-memory
returns-in_err-move_to-clause-memory c = on_err c.from_residual-in_err-move_to.result _ (connect_failed c.args.self.now c.move_to.new.self c.in_err-move_to.ensures.err)

pub returns-in_err-open-clause-memory : goal.returns-in_err-open-clause-memory
returns-in_err-open-clause-memory c = on_err c.from_residual-in_err-open.result _ (connect_failed c.args.self.now c.open.new.self c.in_err-open.ensures.err)

pub returns-clause-step : goal.returns-clause-step
returns-clause-step c = λ naming s means can.
    let f : FitsSigned w64 c.given-given.result.session = search rules in
    let l : FitsSigned w64 c.args.self.now.last = search rules in
    let some = λ (zero : c.given-given.result.session ≡ pos 0). c.if-given-eq0.false (ap (λ (z : ℤ). of_z w64 z) zero) in
    let given = c.given-given.ensures s.sessions (λ session. ephemerals session s.nodes) means.sessions
    ∙ ap (λ (z : ℤ). given_to s.sessions c.args.asked.now z c.args.password) (to_z-of_z w64 c.args.fresh c.ranges.fresh) in
    subst (λ (g : Given). Does naming s (connects c.args.connection c.args.asked.now g c.args.now) (record { places = c.if-is_live.self.places; sessions = c.if-is_live.self.sessions; watches = c.if-is_live.self.watches; last = to_z w64 (of_z w64 (to_z w64 (of_z w64 c.if-is_live.self.last) +ℤ pos 1)) }) c.in_ok-outputs.outputs) given
    (elim c.if-is_live.branch [
      | then-is_live+in_ok-move_to w ↦
          moved_so naming s c.args.connection c.args.asked.now c.given-given.result c.args.now _ _ _ c.args.self.now c.if-is_live.self w.move_to.new.self c.in_ok-outputs.outputs
          means can.free some (to_z-of_z w64 c.given-given.result.session f) (to_z-of_z w64 c.args.now c.ranges.now)
          (w.if-is_live.ensures s.sessions (λ session. ephemerals session s.nodes) means.sessions) c.in_ok-outputs.ensures w.self-is
          (next_last c.if-is_live.self.last c.args.self.now.last (ap (λ (h : Held). h.last) w.self-is) l c.requires.last) w.in_ok-move_to.ensures.ok
      | else-is_live+in_ok-open w ↦
          opened_so naming s c.args.connection c.args.asked.now c.args.fresh c.args.password c.given-given.result c.args.now _ _ _ c.args.self.now c.if-is_live.self w.open.new.self
          c.in_ok-outputs.outputs means can given some (to_z-of_z w64 c.given-given.result.session f) (to_z-of_z w64 c.args.now c.ranges.now)
          (w.if-is_live.ensures s.sessions (λ session. ephemerals session s.nodes) means.sessions) c.in_ok-outputs.ensures w.self-is
          (next_last c.if-is_live.self.last c.args.self.now.last (ap (λ (h : Held). h.last) w.self-is) l c.requires.last) w.in_ok-open.ensures.ok
    ])
