use Rattle.std.proofs.Common.{rules, w32, w64, FitsSigned}
use Rattle.std.proofs.lemmas.Int.{to_z-of_z}
use Rattle.tree_server.proofs.machine.Machine.put_connect.Goals as goal
use Rattle.tree_server.specs.Offers.{entry_of}

pub returns-clause-put : goal.returns-clause-put
unfolding entry_of
returns-clause-put g c =
    let a : FitsSigned w64 c.args.offer.now.given.session = search rules in
    let b : FitsSigned w32 c.args.offer.now.given.timeout = search rules in
    let d : FitsSigned w64 c.args.offer.now.at = search rules in
    let e : FitsSigned w64 c.last-zxid.result = search rules in
    rw (← c.last-zxid.ensures.held) (simp to_z-of_z at c.put.ensures.put)
