use Rattle.path_seal.proofs.Opened.{cut}
use Rattle.payload_seal.proofs.opening.parts_of.Goals as goal

pub returns : goal.returns
returns c =
    let a = c.in_ok-iv.ensures.cases in
    let b = c.in_ok-text.ensures.cases in
    cut c.args.payload.now c.in_ok-iv.iv.now c.in_ok-iv.rest.now c.in_ok-text.text.now c.in_ok-text.tag.now a.0 a.1 a.2 b.0 b.1 b.2
