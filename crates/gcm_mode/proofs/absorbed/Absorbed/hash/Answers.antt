use Rattle.std.proofs.Common.{rules}
use Rattle.gcm_mode.proofs.Absorbing.{absorbed_whole, absorbed_open}
use Rattle.gcm_mode.proofs.absorbed.Absorbed.hash.Goals as goal

pub returns-then-is_multiple_of : goal.returns-then-is_multiple_of
returns-then-is_multiple_of c = λ aad held. absorbed_whole c.args.key.now aad c.args.self.now held (c.is_multiple_of.ensures.0 c.if-is_multiple_of.true)

pub returns-else-is_multiple_of : goal.returns-else-is_multiple_of
returns-else-is_multiple_of c = λ aad held.
    absorbed_open c.args.key.now aad c.args.self.now c.from_be_bytes.result c.times.result held (search rules) c.from_be_bytes.ensures (rw c.hash_key.ensures at c.times.ensures)
