use Rattle.relay_io.proofs.Failing.{all_filled}
use Rattle.relay_io.proofs.memory.MemoryDuo.new.Goals as goal

pub invariant_of-result : goal.invariant_of-result
invariant_of-result c = rw c.filled.ensures (all_filled c.args.events.items)
