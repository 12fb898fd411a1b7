use Rattle.std.proofs.Common.{◌∷◌, refl, rules, w64}
use Rattle.std.specs.Int.RustNames.{FitsSigned}
use Rattle.std.proofs.lemmas.Int.{to_z-of_z}
use Rattle.tree_state.proofs.Changed.{memory_out, held_still, on_err, create_exists, create_makes, Joins, join, no_join}
use Rattle.tree_state.proofs.held.Held.create.Goals as goal
use Rattle.tree_state.proofs.held.Held.create.Goals.{in-Some, in_default}

pub returns-then-is_some-clause-performs : goal.returns-then-is_some-clause-performs
returns-then-is_some-clause-performs c = λ naming s p n m q up means t mo parent named.
    create_exists naming c.args.at.now s p n m _ q c.args.ephemeral c.args.stat up c.args.self.now _ c.find.result means parent named (c.find.ensures s.nodes (m ∷ p) means.places t) c.if-is_some.ensures

pub returns-in_err-made-clause-performs : goal.returns-in_err-made-clause-performs
returns-in_err-made-clause-performs c = λ naming s p n m q up means t mo parent named. memory_out s _ c.args.self.now _ _ _ means c.from_residual.ensures.1

pub returns-in_err-content-clause-performs : goal.returns-in_err-content-clause-performs
returns-in_err-content-clause-performs c = λ naming s p n m q up means t mo parent named. memory_out s _ c.args.self.now _ _ _ means c.from_residual-in_err-content.ensures.1

pub returns-in_err-tell_created-clause-performs : goal.returns-in_err-tell_created-clause-performs
returns-in_err-tell_created-clause-performs c = λ naming s p n m q up means t mo parent named. memory_out s _ c.args.self.now _ _ _ means c.from_residual-in_err-tell_created.ensures.1

pub returns-in_err-own-clause-performs : goal.returns-in_err-own-clause-performs
returns-in_err-own-clause-performs c = λ naming s p n m q up means t mo parent named.
    memory_out s _ _ _ _ _ (held_still c.args.self.now _ c.in_err-own.ensures.kept (λ _ h. h) refl refl s means) c.from_residual-in_err-own.ensures.1

pub returns-in_err-own-clause-kept : goal.returns-in_err-own-clause-kept
returns-in_err-own-clause-kept c = on_err c.from_residual-in_err-own.result (held_still c.args.self.now _ c.in_err-own.ensures.kept (λ _ h. h) refl refl)

pub returns-in_err-add-clause-performs : goal.returns-in_err-add-clause-performs
returns-in_err-add-clause-performs c = λ naming s p n m q up means t mo parent named.
    memory_out s _ _ _ _ _ (held_still c.args.self.now _ c.in_ok-own.ensures.kept c.in_err-add.ensures.err refl refl s means) c.from_residual-in_err-add.ensures.1

pub returns-in_err-add-clause-kept : goal.returns-in_err-add-clause-kept
returns-in_err-add-clause-kept c = on_err c.from_residual-in_err-add.result (held_still c.args.self.now _ c.in_ok-own.ensures.kept c.in_err-add.ensures.err refl refl)

pub returns-clause-performs : goal.returns-clause-performs
returns-clause-performs c = λ naming s p n m q up means t mo parent named.
    let f : FitsSigned w64 c.args.at.now.zxid = search rules in
    let joins : Joins c.args.self.now c.match-own-2.self c.add.new.self c.args.at.now.session c.args.path.now c.args.ephemeral =
    elim c.match-own-2.branch [
      | in-Some w ↦
          let z : FitsSigned w64 c.args.at.now.session = search rules in
          join c.args.self.now _ _ _ _ _ _ _ _ c.in_ok-own.own _ w.in-Some.is c.in_ok-own.ensures.asked c.in_ok-own.ensures.text (to_z-of_z w64 c.args.at.now.session z) c.in_ok-own.ensures.kept w.own.ensures w.self-is
      | in_default w ↦ no_join c.args.self.now _ _ _ _ _ _ c.in_ok-own.own w.in_default.is c.in_ok-own.ensures.asked c.in_ok-own.ensures.kept w.self-is
    ] in
    create_makes naming c.args.at.now s p n m _ _ q c.args.ephemeral c.args.stat up c.args.self.now c.match-own-2.self _ c.add.new.self _ _ c.args.path.now _ _ c.find.result means t mo parent named (c.find.ensures s.nodes (m ∷ p) means.places t) c.if-is_some.ensures
    c.requires.short c.requires.room c.in_ok-content.ensures c.in_ok-made.ensures
    (c.in_ok-tell_created.ensures.events s.watches p m means.watches t) joins refl refl c.created.ensures (to_z-of_z w64 c.args.at.now.zxid f) c.in_ok-add.ensures.ok c.creation.ensures
