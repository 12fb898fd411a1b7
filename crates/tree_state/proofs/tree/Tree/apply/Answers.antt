use Rattle.std.proofs.Common.{◌≡◌, ℕ, ℤ, List, Option, Some, None, refl, sym, ◌∙◌, rules, w32, w64, FitsSigned}
use Rattle.std.proofs.lemmas.Int.{to_z-of_z}
use Rattle.tree_state.specs.Nodes.{ephemerals}
use Rattle.tree_state.specs.State.{Session, session_of}
use Rattle.tree_state.specs.Step.{hears}
use Rattle.tree_state.specs.Trees.{HasRoom, Means}
use Rattle.tree_state.proofs.Applied.{unheard_means, no_answer, the_moment, the_next, heard_keeps, applied, shown, no_room, room_at_first, next_last}
use Rattle.tree_state.proofs.RoomLeft.{room_left, held_left}
use Rattle.tree_state.proofs.CountedChildren.{on_err}
use Rattle.tree_state.proofs.tree.Tree.apply.Goals as goal

-- what the maps say of a connection
said : (c : ℕ) (xs : List Session) (found other : Option ℤ) → found ≡ session_of c xs → found ≡ other → session_of c xs ≡ other
said c xs found other e f = sym e ∙ f

pub returns-in_default-clause-step : goal.returns-in_default-clause-step
returns-in_default-clause-step g c = λ naming s command m nm a.
    no_answer naming s c.args.connection c.args.xid c.args.now command c.args.self.now.held _
    (said c.args.connection s.sessions _ None (c.session_of.ensures s.sessions (λ k. ephemerals k s.nodes) m.sessions) c.in_default.is) (c.of.ensures ∙ c.new.ensures.items) m

pub returns-in_ok-push-in-Ok-clause-step : goal.returns-in_ok-push-in-Ok-clause-step
returns-in_ok-push-in-Ok-clause-step g c = λ naming s command m nm a.
    let f : FitsSigned w64 c.args.self.now.held.last = search rules in
    let e : FitsSigned w64 c.in-Some.session = search rules in
    let t : FitsSigned w64 c.args.now = search rules in
    let l : FitsSigned w64 c.answer.new.self.held.last = search rules in
    let y : FitsSigned w32 c.args.xid = search rules in
    let on = said c.args.connection s.sessions _ (Some c.in-Some.session) (c.session_of.ensures s.sessions (λ k. ephemerals k s.nodes) m.sessions) c.in-Some.is in
    let keeps = simp to_z-of_z at (c.hear.ensures.heard s.sessions (λ k. ephemerals k s.nodes) m.sessions) in
    let live = (simp to_z-of_z at (c.hear.ensures.on s.sessions (λ k. ephemerals k s.nodes) c.args.connection m.sessions)) on in
    let next = next_last c.args.self.now.held.last c.args.self.now.held.last refl f c.requires.last in
    let same = to_z-of_z w64 c.in-Some.session e in
    let is = the_moment _ _ _ _ (the_next s c.args.self.now.held _ m next) (to_z-of_z w64 c.args.now c.ranges.now) same in
    applied naming s c.args.connection c.args.xid c.args.now c.in-Some.session command c.answer.new.self.held c.in-Ok.outcome _ _ c.answer.new.outputs _ on is c.in_ok-outputs.ensures.items
    (shown c.args.connection s c.in-Some.session c.args.now c.args.self.now.held c.hear.new.self _ _ m live keeps same
    (λ x mid im live on. c.in-Ok.ensures.answers naming _ x command mid im live on (room_at_first c.in_ok-outputs.outputs c.in_ok-outputs.ensures.len c.in_ok-outputs.ensures.capacity) nm a))
    (c.of-in-Ok.ensures ∙ (simp to_z-of_z at c.in_ok-push-in-Ok.ensures.items))

-- a list with room takes the reply
pub returns-in_err-push-in-Ok-clause-memory : goal.returns-in_err-push-in-Ok-clause-memory
returns-in_err-push-in-Ok-clause-memory g c = on_err c.from_residual-in_err-push-in-Ok.result _ (λ s m.
    let e : FitsSigned w64 c.in-Some.session = search rules in
    let t : FitsSigned w64 c.args.now = search rules in
    let on = said c.args.connection s.sessions _ (Some c.in-Some.session) (c.session_of.ensures s.sessions (λ k. ephemerals k s.nodes) m.sessions) c.in-Some.is in
    let keeps = simp to_z-of_z at (c.hear.ensures.heard s.sessions (λ k. ephemerals k s.nodes) m.sessions) in
    let live = (simp to_z-of_z at (c.hear.ensures.on s.sessions (λ k. ephemerals k s.nodes) c.args.connection m.sessions)) on in
    let same = to_z-of_z w64 c.in-Some.session e in
    let room : HasRoom c.answer.new.outputs = shown c.args.connection s c.in-Some.session c.args.now c.args.self.now.held c.hear.new.self _ _ m live keeps same
    (λ x mid im live on. room_left _ _ _ _ (c.in-Ok.ensures.kept _ x mid im live on (room_at_first c.in_ok-outputs.outputs c.in_ok-outputs.ensures.len c.in_ok-outputs.ensures.capacity))) in
    absurd (no_room (c.in_err-push-in-Ok.ensures.succeeds room)))

pub returns-in-Err-clause-memory : goal.returns-in-Err-clause-memory
returns-in-Err-clause-memory g c = λ s m.
    let e : FitsSigned w64 c.in-Some.session = search rules in
    let t : FitsSigned w64 c.args.now = search rules in
    let h : FitsSigned w64 c.heard-before.result = search rules in
    let on = said c.args.connection s.sessions _ (Some c.in-Some.session) (c.session_of.ensures s.sessions (λ k. ephemerals k s.nodes) m.sessions) c.in-Some.is in
    let keeps = simp to_z-of_z at (c.hear.ensures.heard s.sessions (λ k. ephemerals k s.nodes) m.sessions) in
    let live = (simp to_z-of_z at (c.hear.ensures.on s.sessions (λ k. ephemerals k s.nodes) c.args.connection m.sessions)) on in
    let same = to_z-of_z w64 c.in-Some.session e in
    let mid : Means c.answer.new.self.held (hears c.in-Some.session c.args.now s) = shown c.args.connection s c.in-Some.session c.args.now c.args.self.now.held c.hear.new.self _ _ m live keeps same
    (λ x mid im live on. held_left _ _ _ _ (c.in-Err.ensures.kept _ x mid im live on (room_at_first c.in_ok-outputs.outputs c.in_ok-outputs.ensures.len c.in_ok-outputs.ensures.capacity))) in
    unheard_means c.answer.new.self.held c.hear-in-Err.new.self s live.one c.in-Some.session c.args.now c.heard-before.result mid m.numbers
    ((simp to_z-of_z at (c.heard-before.ensures s.sessions (λ k. ephemerals k s.nodes) live.one m.sessions)) live.live)
    ((simp to_z-of_z at (c.hear.ensures.back s.sessions (λ k. ephemerals k s.nodes) live.one m.sessions)) live.live)
    (simp to_z-of_z at (c.hear-in-Err.ensures.heard _ (λ k. ephemerals k s.nodes) (heard_keeps s _ c.in-Some.session c.args.now mid)))
