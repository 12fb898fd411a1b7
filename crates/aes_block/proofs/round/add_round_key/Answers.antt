use Rattle.std.proofs.Common.{◌≡◌, ◌+◌, ◌-◌, ◌*◌, arith, refl}
use Rattle.aes_block.proofs.round.add_round_key.Goals as goal

pub returns : goal.returns
returns c =
    let width : 16 * c.args.n + 16 - 16 * c.args.n ≡ 16 = omega arith in
    rw width refl
