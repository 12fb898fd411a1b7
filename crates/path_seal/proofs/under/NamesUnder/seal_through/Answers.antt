use Rattle.std.proofs.Common.{length, ap, arith}
use Rattle.hex.specs.Hex.{encode_lower}
use Rattle.path_seal.proofs.Forms.{name_is}
use Rattle.path_seal.proofs.NameBytes.{length-sealed_bytes}
use Rattle.path_seal.proofs.under.NamesUnder.seal_through.Goals as goal

pub push_hex-requires : goal.push_hex-requires
push_hex-requires c =
    let one = c.requires.parent in
    let is = (rw c.as_bytes.ensures.value at c.in_ok-seal_bytes.ensures) one.path one.under in
    omega (arith, ap length c.as_slice.ensures.value, ap length is, length-sealed_bytes c.args.keys.now one.path c.args.name.now, c.requires.name)

pub returns : goal.returns
returns c p h =
    name_is c.args.keys.now p c.args.name.now _ _ _ _ ((rw c.as_bytes.ensures.value at c.in_ok-seal_bytes.ensures) p h) (ap encode_lower c.as_slice.ensures.value) c.in_ok-push_hex.ensures
