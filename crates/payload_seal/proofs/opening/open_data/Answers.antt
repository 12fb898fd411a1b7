use Rattle.std.proofs.Common.{rules, arith}
use Rattle.payload_seal.proofs.Parts.{opened_size}
use Rattle.payload_seal.specs.declared.opening.Flaw.TheVariants.{BadTag}
use Rattle.payload_seal.proofs.Later.{first_flaws}
use Rattle.payload_seal.proofs.opening.open_data.Goals as goal

pub of-plain-requires : goal.of-plain-requires
of-plain-requires c =
    let opened = rw c.in-Some.is at c.in_ok-bytes.ensures.some in
    omega (arith, opened_size opened, c.if-payload-lt-OVERHEAD.false)

pub returns-in_default-clause-first_flawed : goal.returns-in_default-clause-first_flawed
returns-in_default-clause-first_flawed c first =
    let closed = rw c.in_default.is at c.in_ok-bytes.ensures.none in
    first_flaws c.args.keys.now c.args.path.now c.args.payload.now BadTag c.epoch.result c.epoch.ensures first (record { long = search rules; known = omega (arith, c.if-epoch.false, c.epoch.ensures); closed = closed })
