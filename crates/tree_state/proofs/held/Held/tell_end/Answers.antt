use Rattle.std.proofs.Common.{◌≡◌, ℕ, ℤ, pos, Some, ◌∷◌, ◌+◌, String, Global, List, drop, arith, sym, ap, subst, ◌∙◌, w64}
use Rattle.std.proofs.lemmas.Int.{to_z-of_z}
use Rattle.std.proofs.lemmas.List.{drop_more, drop_all}
use Rattle.zk_path.specs.Paths.{IsTextOf}
use Rattle.tree_state.specs.Nodes.{ephemerals}
use Rattle.tree_state.specs.State.{session_at, on_children, told}
use Rattle.tree_state.specs.Changes.{events_to}
use Rattle.tree_state.specs.Sessions.{OwnTexts}
use Rattle.tree_state.proofs.GoneEvents.{AreTelling, far_owned, none_told, one_told, tells_new, tells_old, all_are_told}
use Rattle.tree_state.proofs.held.Held.tell_end.Goals as goal
use Rattle.tree_state.proofs.held.Held.tell_end.Goals.{then-branch+in_ok-tell_parent, else-branch}

pub loop-path-init : goal.loop-path-init
loop-path-init c = λ s k x means same positive live.
    none_told s.watches (ephemerals k s.nodes) c.ephemerals-path-items.result.now c.new-parents.result.keys c.args.outputs.now.items
    (subst (λ (j : ℤ). session_at j s.sessions ≡ Some x → OwnTexts c.ephemerals-path-items.result.now (ephemerals j s.nodes)) same
    (c.ephemerals-path-items.ensures s.sessions (λ j. ephemerals j s.nodes) x means.sessions) live)
    (far_owned k s means.places.apart means.owners positive) c.new-parents.ensures.empty

pub loop-path-preserved : goal.loop-path-preserved
loop-path-preserved c = λ s k x means same positive live.
    one_told s.watches (ephemerals k s.nodes) c.path-item.result _ c.parts.result.0 c.loop-path.parents.keys c.insert.new.self.keys c.args.outputs.now.items c.loop-path.outputs.items
    c.tell_end.new.outputs.items c.if-branch.outputs.items c.in_ok-insert.field-0
    (subst (λ (texts : List (String Global)). AreTelling s.watches (ephemerals k s.nodes) texts c.loop-path.parents.keys c.args.outputs.now.items c.loop-path.outputs.items)
    (drop_more c.ephemerals-path-items.result.now c.loop-path.path-index c.path-item.result c.loop-path-test.true
    ∙ ap (λ (t : String Global). t ∷ drop (c.loop-path.path-index + 1) c.ephemerals-path-items.result.now) (sym c.path-item.is))
    (c.loop-path.invariant s k x means same positive live))
    (λ p named. c.in_ok-tell_end.ensures s.watches p means.watches (subst (λ (text : List ℕ). IsTextOf text p) (sym c.deref.ensures) named))
    (λ n p named. (c.parts.ensures.path n p (subst (λ (text : List ℕ). IsTextOf text (n ∷ p)) (sym c.deref-in-loop-path.ensures) named)).0)
    c.in_ok-insert.ensures.added c.in_ok-insert.ensures.updates.0
    (λ p named. elim c.if-branch.branch [
      | then-branch+in_ok-tell_parent w ↦
          tells_new c.in_ok-insert.field-0 c.tell_end.new.outputs.items c.if-branch.outputs.items (events_to (pos 4) p (told on_children p s.watches)) w.if-branch.true
          (ap (λ o. o.items) w.outputs-is ∙ w.in_ok-tell_parent.ensures s.watches p means.watches named)
      | else-branch w ↦
          tells_old c.in_ok-insert.field-0 c.tell_end.new.outputs.items c.if-branch.outputs.items (events_to (pos 4) p (told on_children p s.watches)) w.if-branch.false
          (ap (λ o. o.items) w.outputs-is)
    ])

pub returns : goal.returns
returns c = λ s x z means positive live.
    all_are_told z c.args.session s c.loop-path.parents.keys c.args.outputs.now.items c.loop-path.outputs.items means.places.apart means.owners positive
    (subst (λ (texts : List (String Global)). AreTelling s.watches (ephemerals c.args.session s.nodes) texts c.loop-path.parents.keys c.args.outputs.now.items c.loop-path.outputs.items)
    (drop_all c.loop-path.path-index c.ephemerals-path-items.result.now (omega (arith, c.loop-path-test.false)))
    (c.loop-path.invariant s c.args.session x means (to_z-of_z w64 c.args.session c.ranges.session) positive live))
