use Rattle.std.proofs.Common.{FitsSigned, w32, w64, rules, refl}
use Rattle.std.proofs.lemmas.Int.{to_z-of_z}
use Rattle.tree_state.proofs.SessionsKept.{must_be_found}
use Rattle.tree_state.proofs.SessionsMoved.{moved, moved_from, moved_from_none, moves}
use Rattle.tree_state.proofs.session.Sessions.move_to.Goals as goal

pub returns-in-Some-before-clause-ok : goal.returns-in-Some-before-clause-ok
returns-in-Some-before-clause-ok c = λ xs owned x keeps free live.
    let f : FitsSigned w64 c.args.given.now.session = search rules in
    let g : FitsSigned w32 c.args.given.now.timeout = search rules in
    let key = to_z-of_z w64 c.args.given.now.session f in
    let now = to_z-of_z w64 c.args.now c.ranges.now in
    let time = to_z-of_z w32 c.args.given.now.timeout g in
    moved c.args.self.now _ _ c.args.given.now c.args.now c.args.connection _ c.in-Some.live.now _ xs owned refl c.in-Some.ensures.ordered c.in-Some.ensures.value
    (c.get_mut.follows.holds _) (moves c.in-Some.live.now _ _ _ _ _ _ time now c.replace-before.ensures.after)
    (moved_from c.args.self.now c.insert.new.self c.remove.new.self c.args.given.now.session _ _ c.in-Some-before.before c.args.connection c.in-Some.live.now xs owned refl key c.in-Some.ensures.value
    c.in-Some-before.ensures.value c.in_ok-insert.ensures.updates c.remove.ensures.updates keeps free) keeps free

pub returns-in_default-before-clause-ok : goal.returns-in_default-before-clause-ok
returns-in_default-before-clause-ok c = λ xs owned x keeps free live.
    let f : FitsSigned w64 c.args.given.now.session = search rules in
    let g : FitsSigned w32 c.args.given.now.timeout = search rules in
    let key = to_z-of_z w64 c.args.given.now.session f in
    let now = to_z-of_z w64 c.args.now c.ranges.now in
    let time = to_z-of_z w32 c.args.given.now.timeout g in
    moved c.args.self.now _ _ c.args.given.now c.args.now c.args.connection _ c.in-Some.live.now _ xs owned refl c.in-Some.ensures.ordered c.in-Some.ensures.value
    (c.get_mut.follows.holds _) (moves c.in-Some.live.now _ _ _ _ _ _ time now c.replace-before.ensures.after)
    (moved_from_none c.args.self.now c.insert.new.self c.args.given.now.session _ c.args.connection c.in-Some.live.now xs owned key c.in_default-before.ensures.value
    c.in_ok-insert.ensures.updates keeps) keeps free

pub returns-in_default-clause-ok : goal.returns-in_default-clause-ok
returns-in_default-clause-ok c = λ xs owned x keeps free live.
    absurd (must_be_found c.args.self.now _ c.args.given.now.session x xs owned refl c.in_default.ensures.value keeps live)
