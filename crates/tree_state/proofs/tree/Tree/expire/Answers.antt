use Rattle.std.proofs.Common.{rules, w64, FitsSigned}
use Rattle.std.proofs.lemmas.Int.{to_z-of_z}
use Rattle.tree_state.proofs.tree.Tree.expire.Goals as goal

pub returns-clause-step : goal.returns-clause-step
returns-clause-step g c =
    let f : FitsSigned w64 c.args.session = search rules in
    let t : FitsSigned w64 c.args.now = search rules in
    simp to_z-of_z at c.expire.ensures.step
