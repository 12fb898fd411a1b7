use Rattle.std.proofs.Common.{◌≡◌, true, rules}
use Rattle.payload_seal.proofs.Opened.{of_stem, of_no_stem}
use Rattle.payload_seal.proofs.opening.is_digest_for.Goals as goal

pub returns-in-Some : goal.returns-in-Some
returns-in-Some c =
    let sequential : c.args.sequential ≡ true = search rules in
    of_stem c.args.path.now c.in-Some.stem c.args.sequential c.eq-in-Some.result c.digest_of-in-Some.result c.args.digest.now sequential
    (rw c.in-Some.is at c.in_ok-stem.ensures.some) c.digest_of-in-Some.ensures c.eq-in-Some.ensures

pub returns-in-None : goal.returns-in-None
returns-in-None c =
    let sequential : c.args.sequential ≡ true = search rules in
    of_no_stem c.args.path.now c.args.sequential c.args.digest.now sequential (rw c.in-None.is at c.in_ok-stem.ensures.none)
