use Rattle.std.proofs.Common.{rules}
use Rattle.gcm_mode.proofs.Counting.{xor_16}
use Rattle.gcm_mode.proofs.counter.xor.Goals as goal

pub returns : goal.returns
returns c = xor_16 c.args.x c.args.y (search rules) (search rules)
