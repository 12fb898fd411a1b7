use Rattle.std.proofs.Common.{rules, w32, w64, FitsSigned}
use Rattle.std.proofs.lemmas.Int.{to_z-of_z}
use Rattle.tree_server.proofs.machine.Machine.join.Goals as goal
use Rattle.tree_server.proofs.Replaced.{replaced_by, taken_back_by}

pub returns-in-Ok-clause-step : goal.returns-in-Ok-clause-step
returns-in-Ok-clause-step g c =
    let fresh : FitsSigned w64 c.args.offer.now.fresh = search rules in
    let at : FitsSigned w64 c.args.offer.now.at = search rules in
    simp to_z-of_z at c.in-Ok.ensures.step

pub returns-in-Ok-clause-dues : goal.returns-in-Ok-clause-dues
returns-in-Ok-clause-dues g c =
    let at : FitsSigned w64 c.args.offer.now.at = search rules in
    let timeout : FitsSigned w32 c.args.offer.now.given.timeout = search rules in
    let session : FitsSigned w64 c.args.offer.now.given.session = search rules in
    replaced_by c.args.was c.due-next.result _ _ _ _ _ (simp to_z-of_z at c.due-next.ensures.session)
    ((simp to_z-of_z at c.due-next.ensures.at) c.requires.time) c.in_ok-add.ensures.ok c.leave.ensures

pub returns-in-Err-clause-same : goal.returns-in-Err-clause-same
returns-in-Err-clause-same g c =
    let at : FitsSigned w64 c.args.offer.now.at = search rules in
    let timeout : FitsSigned w32 c.args.offer.now.given.timeout = search rules in
    let session : FitsSigned w64 c.args.offer.now.given.session = search rules in
    taken_back_by c.args.was c.due-next.result _ _ _ _ _ (simp to_z-of_z at c.due-next.ensures.session)
    ((simp to_z-of_z at c.due-next.ensures.at) c.requires.time) c.in_ok-add.ensures.ok c.take_back.ensures
