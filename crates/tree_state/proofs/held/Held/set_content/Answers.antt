use Rattle.std.proofs.Common.{ℕ, List, true, false, refl, sym, subst, rules, w32, w64}
use Rattle.std.specs.Int.RustNames.{FitsSigned}
use Rattle.std.proofs.lemmas.Int.{to_z-of_z}
use Rattle.zk_path.specs.Paths.{IsTextOf}
use Rattle.tree_state.proofs.Changed.{tested, memory_out, content_none, content_wrong, content_last, content_set}
use Rattle.tree_state.proofs.held.Held.set_content.Goals as goal

pub returns-in_default-clause-performs : goal.returns-in_default-clause-performs
returns-in_default-clause-performs c = λ naming s p m t mo.
    let here = subst (λ (text : List ℕ). IsTextOf text p) (sym c.as_str-path.ensures) t in
    content_none naming c.args.at.now s p _ c.args.asked.now.version c.args.self.now _ m (c.in_default.ensures s.nodes p m.places here)

pub returns-then-is_other-clause-performs : goal.returns-then-is_other-clause-performs
returns-then-is_other-clause-performs c = λ naming s p m t mo.
    let here = subst (λ (text : List ℕ). IsTextOf text p) (sym c.as_str-path.ensures) t in
    let v : FitsSigned w32 c.args.asked.now.version = search rules in
    content_wrong naming c.args.at.now s p _ c.args.asked.now.version c.args.self.now _ c.in-Some.node.now m (c.in-Some.ensures s.nodes p m.places here) (tested c.args.asked.now.version _ true _ v c.is_other.ensures c.if-is_other.true)

pub returns-then-node-ge-LAST-clause-performs : goal.returns-then-node-ge-LAST-clause-performs
returns-then-node-ge-LAST-clause-performs c = λ naming s p m t mo.
    let here = subst (λ (text : List ℕ). IsTextOf text p) (sym c.as_str-path.ensures) t in
    let v : FitsSigned w32 c.args.asked.now.version = search rules in
    content_last naming c.args.at.now s p _ c.args.asked.now.version c.args.self.now _ c.in-Some.node.now m (c.in-Some.ensures s.nodes p m.places here) (tested c.args.asked.now.version _ false _ v c.is_other.ensures c.if-is_other.false) c.if-node-ge-LAST.true

pub returns-in_err-content-clause-performs : goal.returns-in_err-content-clause-performs
returns-in_err-content-clause-performs c = λ naming s p m t mo. memory_out s _ c.args.self.now _ _ _ m c.from_residual.ensures.1

pub returns-in_err-tell_changed-clause-performs : goal.returns-in_err-tell_changed-clause-performs
returns-in_err-tell_changed-clause-performs c = λ naming s p m t mo. memory_out s _ c.args.self.now _ _ _ m c.from_residual-in_err-tell_changed.ensures.1

pub returns-clause-performs : goal.returns-clause-performs
returns-clause-performs c = λ naming s p m t mo.
    let f : FitsSigned w64 c.args.at.now.zxid = search rules in
    let here = subst (λ (text : List ℕ). IsTextOf text p) (sym c.as_str-path.ensures) t in
    let v : FitsSigned w32 c.args.asked.now.version = search rules in
    content_set naming c.args.at.now s p _ _ c.args.asked.now.version c.args.self.now _ _ _ c.as_str-path.result.now c.in-Some.node.now c.changed-2.result m here (c.in-Some.ensures s.nodes p m.places here)
    (tested c.args.asked.now.version _ false _ v c.is_other.ensures c.if-is_other.false) c.if-node-ge-LAST.false c.requires.short c.in_ok-content.ensures (c.in_ok-tell_changed.ensures.events s.watches p m.watches here) c.set_content.ensures
    (c.changed.ensures s.watches p m.watches here) refl (to_z-of_z w64 c.args.at.now.zxid f) c.changed-2.ensures
