use Rattle.std.proofs.Common.{◌∷◌, true, false, sym, rules, w32, w64}
use Rattle.std.specs.Int.RustNames.{FitsSigned}
use Rattle.std.proofs.lemmas.Bool.{both_ways}
use Rattle.std.proofs.lemmas.Int.{to_z-of_z}
use Rattle.tree_state.specs.Places.{node_of}
use Rattle.tree_state.proofs.Changed.{tested, memory_out, delete_none, delete_wrong, delete_full, delete_out}
use Rattle.tree_state.proofs.held.Held.delete.Goals as goal

pub returns-in_default-clause-performs : goal.returns-in_default-clause-performs
returns-in_default-clause-performs c = λ naming s n p m t mo. delete_none naming c.args.at.now s (n ∷ p) c.args.version c.args.self.now _ m (c.in_default.ensures s.nodes (n ∷ p) m.places t)

pub returns-then-is_other-clause-performs : goal.returns-then-is_other-clause-performs
returns-then-is_other-clause-performs c = λ naming s n p m t mo.
    let v : FitsSigned w32 c.args.version = search rules in
    delete_wrong naming c.args.at.now s (n ∷ p) c.args.version c.args.self.now _ c.in-Some.node.now m (c.in-Some.ensures s.nodes (n ∷ p) m.places t) (tested c.args.version _ true _ v c.is_other.ensures c.if-is_other.true)

pub returns-then-not-is_empty-clause-performs : goal.returns-then-not-is_empty-clause-performs
returns-then-not-is_empty-clause-performs c = λ naming s n p m t mo.
    let v : FitsSigned w32 c.args.version = search rules in
    delete_full naming c.args.at.now s (n ∷ p) c.args.version c.args.self.now _ c.in-Some.node.now m (c.in-Some.ensures s.nodes (n ∷ p) m.places t) (tested c.args.version _ false _ v c.is_other.ensures c.if-is_other.false)
    (λ e. both_ways _ c.if-not-is_empty.true (c.is_empty.ensures.1 e))

pub returns-in_err-tell_deleted-clause-performs : goal.returns-in_err-tell_deleted-clause-performs
returns-in_err-tell_deleted-clause-performs c = λ naming s n p m t mo. memory_out s _ c.args.self.now _ _ _ m c.from_residual.ensures.1

pub returns-clause-performs : goal.returns-clause-performs
returns-clause-performs c = λ naming s n p m t mo.
    let v : FitsSigned w32 c.args.version = search rules in
    let f : FitsSigned w64 c.in-Some.node.now.numbers.owner = search rules in
    delete_out naming c.args.at.now s (n ∷ p) c.args.version c.args.self.now _ _ _ c.in-Some.node.now _ m (c.in-Some.ensures s.nodes (n ∷ p) m.places t) (tested c.args.version _ false _ v c.is_other.ensures c.if-is_other.false)
    (c.is_empty.ensures.0 c.if-not-is_empty.false) (sym (to_z-of_z w64 c.in-Some.node.now.numbers.owner f)) (c.in_ok-tell_deleted.ensures.events s.watches p n m.watches t) (c.take_out.ensures s n p (node_of c.in-Some.node.now) m t mo)
