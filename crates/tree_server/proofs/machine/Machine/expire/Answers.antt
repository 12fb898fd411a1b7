use Rattle.std.proofs.Common.{◌∙◌, rules, w32, w64, FitsSigned}
use Rattle.std.proofs.lemmas.Int.{to_z-of_z}
use Rattle.tree_server.proofs.machine.Machine.expire.Goals as goal
use Rattle.tree_server.proofs.Ends.{expired_so}

pub returns-clause-ended : goal.returns-clause-ended
returns-clause-ended g c past stands over =
    let session : FitsSigned w64 c.args.session = search rules in
    let now : FitsSigned w64 c.args.now = search rules in
    let heard : FitsSigned w64 c.in-Some.live.heard = search rules in
    let timeout : FitsSigned w32 c.in-Some.live.timeout = search rules in
    let zxid : FitsSigned w64 c.last-zxid.result = search rules in
    expired_so g.N.Numberer.named _ _ _ _ _ _ _ _ _ _ _ past c.args.session c.last-zxid.result c.args.now _ _ c.in-Some.live c.due.result
    _ _ _ stands over
    (simp to_z-of_z at c.session.ensures) c.in-Some.is (c.put.ensures.numberer
    ∙ c.expire.ensures.numberer) (simp to_z-of_z at c.in_ok-outputs.ensures.step) c.put.ensures.held
    (simp to_z-of_z at c.due.ensures.session)
    (simp to_z-of_z at c.due.ensures.at) c.remove.ensures c.owed_by.ensures c.saturating_sub-self.ensures c.last-zxid.ensures.held
    (simp to_z-of_z at c.put.ensures.put) c.put.ensures.books
