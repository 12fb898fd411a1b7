use Rattle.std.proofs.Common.{◌≡◌, ◌∙◌, ◌∷◌, ◌++◌, ◌+◌, ◌≤ℤ◌, ℤ, pos, String, Global, List, Some, arith, drop, refl, sym, ap, subst, rules, to_z, of_z, w64, FitsSigned}
use Rattle.std.proofs.lemmas.Int.{to_z-of_z}
use Rattle.std.proofs.lemmas.List.{drop_more, drop_all}
use Rattle.tree_state.specs.declared.held.Held.{Held}
use Rattle.tree_state.specs.Nodes.{ephemerals}
use Rattle.tree_state.specs.State.{session_at, without_session}
use Rattle.tree_state.specs.Changes.{all_deleted}
use Rattle.tree_state.specs.Step.{connection_at, ended}
use Rattle.tree_state.specs.Sessions.{Keeps, OwnTexts}
use Rattle.tree_state.specs.Trees.{Means}
use Rattle.tree_state.proofs.Ended.{AreLeaving, Removes, Fires, all_left, next_goes, lost_some, lost_none, session_ended}
use Rattle.tree_state.proofs.held.Held.end_session.Goals as goal
use Rattle.tree_state.proofs.held.Held.end_session.Goals.{in-Some, in_default}

pub loop-path-init : goal.loop-path-init
loop-path-init c = record {
  sessions = refl;
  nodes = λ s x means moment live.
      let f : FitsSigned w64 c.args.at.now.session = search rules in
      let same = to_z-of_z w64 c.args.at.now.session f in
      let own = c.end-gone.ensures.paths s.sessions (λ k. ephemerals k s.nodes) x means.sessions (subst (λ (k : ℤ). session_at k s.sessions ≡ Some x) (sym same) live) in
      all_left c.args.at.now.zxid c.args.at.now.session s c.args.self.now.places c.args.self.now.watches c.deref-path-items.result.now means.places means.watches
      (subst (λ (texts : List (String Global)). OwnTexts texts (ephemerals c.args.at.now.session s.nodes)) (sym c.deref-path-items.ensures.value)
      (subst (λ (k : ℤ). OwnTexts c.end-gone.result.items (ephemerals k s.nodes)) same own)) means.owners;
}

pub loop-path-preserved : goal.loop-path-preserved
loop-path-preserved c = record {
  sessions = c.loop-path.invariant.sessions;
  nodes = λ s x means moment live.
      next_goes c.args.at.now.zxid c.args.at.now.session s c.loop-path.self.places c.remove.new.self c.loop-path.self.watches c.deleted.new.self c.path-item.result _ moment.positive
      (subst (λ text. Removes c.args.at.now.zxid text c.loop-path.self.places c.remove.new.self) c.deref.ensures c.remove.ensures)
      (subst (λ text. Fires text c.loop-path.self.watches c.deleted.new.self) c.deref-in-loop-path.ensures c.deleted.ensures)
      (subst (AreLeaving c.args.at.now.zxid c.args.at.now.session s c.loop-path.self.places c.loop-path.self.watches)
      (drop_more c.deref-path-items.result.now c.loop-path.path-index c.path-item.result c.loop-path-test.true
      ∙ ap (λ (k : String Global). k ∷ drop (c.loop-path.path-index + 1) c.deref-path-items.result.now) (sym c.path-item.is))
      (c.loop-path.invariant.nodes s x means moment live));
}

pub returns : goal.returns
returns c =
    let f : FitsSigned w64 c.args.at.now.session = search rules in
    let g : FitsSigned w64 c.args.at.now.zxid = search rules in
    let same = to_z-of_z w64 c.args.at.now.session f in
    record {
      ended = λ s x means moment live.
          let left = subst (AreLeaving c.args.at.now.zxid c.args.at.now.session s c.loop-path.self.places c.loop-path.self.watches)
          (drop_all c.loop-path.path-index c.deref-path-items.result.now (omega (arith, c.loop-path-test.false))) (c.loop-path.invariant.nodes s x means moment live) in
          let kept = subst (λ t. Keeps t (without_session c.args.at.now.session s.sessions) (λ k. ephemerals k s.nodes)) (sym c.loop-path.invariant.sessions)
          (subst (λ (k : ℤ). Keeps c.end-gone.new.self (without_session k s.sessions) (λ j. ephemerals j s.nodes)) same
          (c.end-gone.ensures.kept s.sessions (λ k. ephemerals k s.nodes) means.sessions)) in
          let its = subst (λ (k : ℤ). c.connection_of-connection.result ≡ connection_at (session_at k s.sessions)) same
          (c.connection_of-connection.ensures s.sessions (λ k. ephemerals k s.nodes) means.sessions) in
          elim c.match-connection.branch [
            | in-Some w ↦
                subst (λ (h : Held). Means (record { places = h.places; sessions = h.sessions; watches = h.watches; last = to_z w64 (of_z w64 c.args.at.now.zxid) })
                (ended c.args.at.now.session (all_deleted c.args.at.now.zxid (ephemerals c.args.at.now.session s.nodes) s).state)) (sym w.self-is)
                (session_ended c.args.self.now _ c.args.at.now s c.loop-path.self.watches c.connection_of-connection.result means left kept its
                (lost_some c.connection_of-connection.result w.in-Some.connection c.loop-path.self.watches w.lose.new.self w.in-Some.is w.lose.ensures) (to_z-of_z w64 c.args.at.now.zxid g))
            | in_default w ↦
                subst (λ (h : Held). Means (record { places = h.places; sessions = h.sessions; watches = h.watches; last = to_z w64 (of_z w64 c.args.at.now.zxid) })
                (ended c.args.at.now.session (all_deleted c.args.at.now.zxid (ephemerals c.args.at.now.session s.nodes) s).state)) (sym w.self-is)
                (session_ended c.args.self.now _ c.args.at.now s c.loop-path.self.watches c.connection_of-connection.result means left kept its
                (lost_none c.connection_of-connection.result c.loop-path.self.watches w.in_default.is) (to_z-of_z w64 c.args.at.now.zxid g))
          ];
      events = λ s x means moment live.
          c.in_ok-make_room.ensures.items
          ∙ subst (λ (k : ℤ). pos 1 ≤ℤ k → session_at k s.sessions ≡ Some x
          → c.tell_end.new.outputs.items ≡ c.args.outputs.now.items ++ (all_deleted c.args.at.now.zxid (ephemerals k s.nodes) s).events) same
          (λ positive there. c.in_ok-tell_end.ensures s x c.args.at.now.zxid means positive there) moment.positive live;
      room = c.in_ok-make_room.ensures.room;
      memory = tt;
    }
