use Rattle.std.proofs.Common.{true, false, refl, rules, w32, w64}
use Rattle.std.specs.Int.RustNames.{FitsSigned}
use Rattle.std.proofs.lemmas.Int.{to_z-of_z}
use Rattle.tree_state.proofs.Changed.{tested, acl_none, acl_wrong, acl_last, acl_set}
use Rattle.tree_state.proofs.held.Held.set_acl.Goals as goal

pub returns-in_default : goal.returns-in_default
returns-in_default c = λ naming k s p m t mo. acl_none naming c.args.at.now k s p c.args.version c.args.self.now m (c.in_default.ensures s.nodes p m.places t)

pub returns-then-is_other : goal.returns-then-is_other
returns-then-is_other c = λ naming k s p m t mo.
    let v : FitsSigned w32 c.args.version = search rules in
    acl_wrong naming c.args.at.now k s p c.args.version c.args.self.now c.in-Some.node.now m (c.in-Some.ensures s.nodes p m.places t) (tested c.args.version _ true _ v c.is_other.ensures c.if-is_other.true)

pub returns-then-node-ge-LAST : goal.returns-then-node-ge-LAST
returns-then-node-ge-LAST c = λ naming k s p m t mo.
    let v : FitsSigned w32 c.args.version = search rules in
    acl_last naming c.args.at.now k s p c.args.version c.args.self.now c.in-Some.node.now m (c.in-Some.ensures s.nodes p m.places t) (tested c.args.version _ false _ v c.is_other.ensures c.if-is_other.false) c.if-node-ge-LAST.true

pub returns : goal.returns
returns c = λ naming k s p m t mo.
    let f : FitsSigned w64 c.args.at.now.zxid = search rules in
    let v : FitsSigned w32 c.args.version = search rules in
    acl_set naming c.args.at.now k s p c.args.version c.args.self.now _ c.args.path.now c.in-Some.node.now c.changed.result m t (c.in-Some.ensures s.nodes p m.places t) (tested c.args.version _ false _ v c.is_other.ensures c.if-is_other.false) c.if-node-ge-LAST.false
    c.set_acl.ensures refl refl (to_z-of_z w64 c.args.at.now.zxid f) c.changed.ensures
