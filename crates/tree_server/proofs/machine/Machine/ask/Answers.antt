use Rattle.std.proofs.Common.{◌+◌, ◌≤◌, refl, sym, subst, rules, w32, w64, FitsSigned}
use Rattle.std.proofs.lemmas.Int.{to_z-of_z}
use Rattle.tree_state.proofs.CountedChildren.{on_err}
use Rattle.store_side.specs.Past.{state_of}
use Rattle.tree_server.specs.Times.{AreDues}
use Rattle.tree_server.proofs.AnswerLengths.{is_other}
use Rattle.tree_server.proofs.RequestAsked.{IsNextTime, IsRead, asked_close, asked_heard, books_back, dues_undone, room_made, stands_still}
use Rattle.tree_server.proofs.machine.Machine.ask.Goals as goal

pub returns-in_err-outputs-clause-failed : goal.returns-in_err-outputs-clause-failed
returns-in_err-outputs-clause-failed g c = on_err c.from_residual-in_err-outputs.result _ (λ past h on.
    stands_still _ _ (g.J.Keeping.keeps c.args.self.now.journal) _ _ _ _ _ _ _ c.args.self.now.books.dues past h c.apply.ensures.names
    c.in_err-outputs.ensures.memory
    (λ order k. subst (λ j. g.J.Keeping.keeps j order) (sym c.apply.ensures.journal) (c.reserve.ensures.kept order k))
    (subst (λ j. c.args.self.now.books.owed + 1 ≤ g.J.Keeping.room j) (sym c.apply.ensures.journal)
    (room_made _ _ _ _ _ _ _ past h c.saturating_add.ensures c.in_ok-reserve.ensures.room))
    c.apply.ensures.books h.dues)

pub returns-then-is_close-clause-asked : goal.returns-then-is_close-clause-asked
returns-then-is_close-clause-asked g c = λ past command h on a.
    let f : FitsSigned w64 c.args.from.now.session = search rules in
    let e : FitsSigned w64 c.in-Some.live.heard = search rules in
    let t : FitsSigned w32 c.in-Some.live.timeout = search rules in
    let i : IsRead past c.args.from.now c.in-Some.live c.due-before.result = record {
      on = on;
      shown = simp to_z-of_z at (c.in-Some.ensures (state_of past) h.means);
      its = simp to_z-of_z at c.due-before.ensures.session;
      at = simp to_z-of_z at c.due-before.ensures.at;
    } in
    asked_close _ _ _ _ c.apply.new.self.tree.held _ _ past c.args.from.now c.args.request.now command c.in-Some.live c.due-before.result
    c.remove.new.self c.in_ok-outputs.outputs
    h i a (c.is_close.ensures.0 c.if-is_close.true) (c.in_ok-outputs.ensures.step past.naming (state_of past) command h.means h.naming a)
    c.apply.ensures.books c.remove.ensures

pub returns-in_err-add-clause-failed : goal.returns-in_err-add-clause-failed
returns-in_err-add-clause-failed g c = on_err c.from_residual-in_err-add.result _ (λ past h on.
    stands_still _ _ (g.J.Keeping.keeps c.args.self.now.journal) _ _ _ _ _ _ _ c.add.new.self past h (λ stem number text. (λ x. x, λ x. x))
    (λ s m. m) c.reserve.ensures.kept
    (room_made _ _ _ _ _ _ _ past h c.saturating_add.ensures c.in_ok-reserve.ensures.room) refl
    (subst (λ ds. AreDues ds (state_of past).sessions) (sym c.in_err-add.ensures.err) h.dues))

pub returns-in-Ok-clause-asked : goal.returns-in-Ok-clause-asked
returns-in-Ok-clause-asked g c = λ past command h on a.
    let f : FitsSigned w64 c.args.from.now.session = search rules in
    let e : FitsSigned w64 c.in-Some.live.heard = search rules in
    let t : FitsSigned w32 c.in-Some.live.timeout = search rules in
    let n : FitsSigned w64 c.args.from.now.time = search rules in
    let i : IsRead past c.args.from.now c.in-Some.live c.due-before.result = record {
      on = on;
      shown = simp to_z-of_z at (c.in-Some.ensures (state_of past) h.means);
      its = simp to_z-of_z at c.due-before.ensures.session;
      at = simp to_z-of_z at c.due-before.ensures.at;
    } in
    let j : IsNextTime c.args.from.now c.in-Some.live c.due-after.result = record {
      time = c.requires.time;
      its = simp to_z-of_z at c.due-after.ensures.session;
      at = simp to_z-of_z at c.due-after.ensures.at;
    } in
    asked_heard _ _ _ _ c.apply-2.new.self.tree.held _ c.apply-2.new.self.books past c.args.from.now c.args.request.now command
    c.in-Some.live c.due-before.result c.due-after.result
    c.add.new.self c.leave.new.self.dues c.in-Ok.outputs
    h i j a (is_other c.args.request.now _ c.is_close.ensures c.if-is_close.false)
    (c.in-Ok.ensures.step past.naming (state_of past) command h.means h.naming a)
    c.in_ok-add.ensures.ok c.apply-2.ensures.books c.leave.ensures.dues

pub returns-in-Err-clause-failed : goal.returns-in-Err-clause-failed
returns-in-Err-clause-failed g c = λ past h on.
    let f : FitsSigned w64 c.args.from.now.session = search rules in
    let e : FitsSigned w64 c.in-Some.live.heard = search rules in
    let t : FitsSigned w32 c.in-Some.live.timeout = search rules in
    let i : IsRead past c.args.from.now c.in-Some.live c.due-before.result = record {
      on = on;
      shown = simp to_z-of_z at (c.in-Some.ensures (state_of past) h.means);
      its = simp to_z-of_z at c.due-before.ensures.session;
      at = simp to_z-of_z at c.due-before.ensures.at;
    } in
    stands_still _ _ (g.J.Keeping.keeps c.args.self.now.journal) _ _ _ _ _ _ c.leave-in-Err.new.self c.leave-in-Err.new.self.dues past h
    c.apply-2.ensures.names c.in-Err.ensures.memory
    (λ order k. subst (λ j. g.J.Keeping.keeps j order) (sym c.apply-2.ensures.journal) (c.reserve.ensures.kept order k))
    (subst (λ j. c.args.self.now.books.owed + 1 ≤ g.J.Keeping.room j) (sym c.apply-2.ensures.journal)
    (room_made _ _ _ _ _ _ _ past h c.saturating_add.ensures c.in_ok-reserve.ensures.room))
    (books_back c.args.self.now.books c.apply-2.new.self.books c.leave-in-Err.new.self c.add.new.self c.leave-in-Err.new.self.dues
    c.apply-2.ensures.books c.leave-in-Err.ensures.rest)
    (dues_undone _ _ _ _ _ c.apply-2.new.self.books past c.args.from.now c.in-Some.live c.due-before.result c.due-after.result
    c.add.new.self _ h i
    (simp to_z-of_z at c.due-after.ensures.session) c.in_ok-add.ensures.ok c.apply-2.ensures.books c.leave-in-Err.ensures.dues)
