use Rattle.std.proofs.Common.{rules, w64}
use Rattle.std.specs.Int.RustNames.{FitsSigned}
use Rattle.std.proofs.lemmas.Int.{to_z-of_z}
use Rattle.tree_state.proofs.CountedChildren.{on_err, not_counted, counted_in}
use Rattle.tree_state.proofs.places.Places.count_creation.Goals as goal

pub returns-in_err-insert-in-Some-clause-err : goal.returns-in_err-insert-in-Some-clause-err
returns-in_err-insert-in-Some-clause-err c =
    on_err c.from_residual.result _ (not_counted c.args.parent.now c.args.self.now.nodes.entries _ c.in-Some.up.now c.insert.new.self c.in-Some.ensures.value c.in_err-insert-in-Some.ensures.err
    (c.get_mut.follows.holds (record { content = c.in-Some.up.now.content; numbers = c.in-Some.up.now.numbers; names = c.insert.new.self })).0)

pub returns-in_ok-insert-in-Some-clause-ok : goal.returns-in_ok-insert-in-Some-clause-ok
returns-in_ok-insert-in-Some-clause-ok c =
    let f1 : FitsSigned w64 c.in-Some.up.now.numbers.czxid = search rules in
    let f2 : FitsSigned w64 c.in-Some.up.now.numbers.mzxid = search rules in
    let f3 : FitsSigned w64 c.in-Some.up.now.numbers.ctime = search rules in
    let f4 : FitsSigned w64 c.in-Some.up.now.numbers.mtime = search rules in
    let f5 : FitsSigned w64 c.in-Some.up.now.numbers.owner = search rules in
    let f6 : FitsSigned w64 c.args.at.now.zxid = search rules in
    counted_in c.args.parent.now c.args.name c.args.at.now.zxid c.args.self.now.nodes.entries _ c.in-Some.up.now _ c.saturating_add.result c.insert.new.self c.in-Some.ensures.value
    c.saturating_add.ensures c.in_ok-insert-in-Some.ensures.keys (c.get_mut.follows.holds _).0 (simp to_z-of_z)
