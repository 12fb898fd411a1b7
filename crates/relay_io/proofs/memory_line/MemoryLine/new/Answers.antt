use Rattle.relay_io.proofs.Coming.{is_given}
use Rattle.relay_io.proofs.memory_line.MemoryLine.new.Goals as goal

pub invariant_of-result : goal.invariant_of-result
invariant_of-result c = rw c.given.ensures (is_given c.args.events.items c.requires)
