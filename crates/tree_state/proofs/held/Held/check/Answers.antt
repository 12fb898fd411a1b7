use Rattle.std.proofs.Common.{true, false, refl, rules, w32, w64}
use Rattle.std.specs.Int.RustNames.{FitsSigned}
use Rattle.std.proofs.lemmas.Int.{to_z-of_z}
use Rattle.tree_state.proofs.Changed.{tested, check_none, check_wrong, check_passed}
use Rattle.tree_state.proofs.held.Held.check.Goals as goal

pub returns-in_default : goal.returns-in_default
returns-in_default c = λ naming s p outputs m t. check_none naming c.args.at.now s p c.args.version c.args.self.now outputs m (c.in_default.ensures s.nodes p m.places t)

pub returns-then-is_other : goal.returns-then-is_other
returns-then-is_other c = λ naming s p outputs m t.
    let v : FitsSigned w32 c.args.version = search rules in
    check_wrong naming c.args.at.now s p c.args.version c.args.self.now outputs c.in-Some.node.now m (c.in-Some.ensures s.nodes p m.places t) (tested c.args.version _ true _ v c.is_other.ensures c.if-is_other.true)

pub returns : goal.returns
returns c = λ naming s p outputs m t.
    let f : FitsSigned w64 c.args.at.now.zxid = search rules in
    let v : FitsSigned w32 c.args.version = search rules in
    check_passed naming c.args.at.now s p c.args.version c.args.self.now _ outputs c.in-Some.node.now m (c.in-Some.ensures s.nodes p m.places t) (tested c.args.version _ false _ v c.is_other.ensures c.if-is_other.false)
    refl refl refl (to_z-of_z w64 c.args.at.now.zxid f)
