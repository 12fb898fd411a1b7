use Rattle.request_queue.proofs.Popped.{rest_kept}
use Rattle.request_queue.proofs.queue.Queue.pop.Goals as goal

pub invariant_of-self-2 : goal.invariant_of-self-2
invariant_of-self-2 c = rest_kept _ _ _ _ _ c.self.invariant c.in_ok-pending.ensures.items c.weight.ensures
