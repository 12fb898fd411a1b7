use Rattle.std.proofs.Common.{rules, w64}
use Rattle.std.specs.Int.RustNames.{FitsSigned}
use Rattle.std.proofs.lemmas.Int.{to_z-of_z}
use Rattle.tree_state.proofs.CountedChildren.{counted_out}
use Rattle.tree_state.proofs.places.Places.count_deletion.Goals as goal

pub returns-in-Some : goal.returns-in-Some
returns-in-Some c =
    let f1 : FitsSigned w64 c.in-Some.up.now.numbers.czxid = search rules in
    let f2 : FitsSigned w64 c.in-Some.up.now.numbers.mzxid = search rules in
    let f3 : FitsSigned w64 c.in-Some.up.now.numbers.ctime = search rules in
    let f4 : FitsSigned w64 c.in-Some.up.now.numbers.mtime = search rules in
    let f5 : FitsSigned w64 c.in-Some.up.now.numbers.owner = search rules in
    let f6 : FitsSigned w64 c.args.at.now.zxid = search rules in
    counted_out c.args.parent.now c.args.name.now c.args.at.now.zxid c.args.self.now.nodes.entries _ c.in-Some.up.now _ c.saturating_add.result c.remove.new.self c.in-Some.ensures.value
    c.saturating_add.ensures c.remove.ensures.keys (c.get_mut.follows.holds _).0 (simp to_z-of_z)
