use Rattle.std.proofs.Common.{◌∙◌, ℤ, FitsSigned, of_z, w32, w64, ap, rules, sym}
use Rattle.std.specs.Int.{cast_signed}
use Rattle.std.proofs.lemmas.Int.{to_z-of_z}
use Rattle.tree_state.proofs.SessionsGiven.{clamped_so, given_of, given_fresh, given_known, given_wrong, given_unknown}
use Rattle.tree_state.proofs.session.Sessions.given.Goals as goal
use Rattle.tree_state.proofs.session.Sessions.given.Goals.{in_default-via-in-Some+else-has_password, in_default-via-in_default}

pub returns-then-asked-eq0 : goal.returns-then-asked-eq0
returns-then-asked-eq0 c = λ xs owned keeps.
    let f : FitsSigned w64 c.args.asked.now.session = search rules in
    let g : FitsSigned w32 c.args.asked.now.timeout = search rules in
    let h : FitsSigned w32 c.clamp-timeout.result = search rules in
    given_of _ _ _ _ c.args.password (to_z-of_z w64 c.args.fresh c.ranges.fresh) (clamped_so c.args.asked.now.timeout c.clamp-timeout.result g h c.clamp-timeout.ensures.value)
    ∙ sym (given_fresh xs c.args.asked.now c.args.fresh c.args.password (sym (to_z-of_z w64 c.args.asked.now.session f) ∙ ap (cast_signed w64) c.if-asked-eq0.true))

pub returns-in-Some : goal.returns-in-Some
returns-in-Some c = λ xs owned keeps.
    let f : FitsSigned w64 c.args.asked.now.session = search rules in
    let g : FitsSigned w32 c.args.asked.now.timeout = search rules in
    let h : FitsSigned w32 c.clamp-timeout.result = search rules in
    given_of _ _ _ _ c.in-Some.live.now.password (to_z-of_z w64 c.args.asked.now.session f) (clamped_so c.args.asked.now.timeout c.clamp-timeout.result g h c.clamp-timeout.ensures.value)
    ∙ sym (given_known c.args.self.now xs owned c.args.asked.now c.args.fresh c.args.password c.in-Some.live.now (λ z. c.if-asked-eq0.false (ap (λ (y : ℤ). of_z w64 y) z)) c.in-Some.ensures.value c.if-has_password.ensures keeps)

pub returns-in_default : goal.returns-in_default
returns-in_default c = λ xs owned keeps.
    elim c.in_default.branch [
      | in_default-via-in-Some+else-has_password w ↦
          c.no_session.ensures
          ∙ sym (given_wrong c.args.self.now xs owned c.args.asked.now c.args.fresh c.args.password w.in-Some.live.now (λ z. c.if-asked-eq0.false (ap (λ (y : ℤ). of_z w64 y) z)) w.in-Some.ensures.value w.if-has_password.ensures keeps)
      | in_default-via-in_default w ↦
          c.no_session.ensures
          ∙ sym (given_unknown c.args.self.now xs owned c.args.asked.now c.args.fresh c.args.password (λ z. c.if-asked-eq0.false (ap (λ (y : ℤ). of_z w64 y) z)) w.in_default.ensures.value keeps)
    ]
