use Rattle.relay_io.proofs.Coming.{front_is, stays, hears}
use Rattle.relay_io.proofs.memory_line.MemoryLine.hear.Goals as goal

pub invariant_of-self-2 : goal.invariant_of-self-2
invariant_of-self-2 c =
    stays _ c.self.inside.left.items c.leave.new.left.items c.in-Some.event.now c.in_ok-others.others c.time_of-at.result
    (front_is _ _ (rw c.deref.ensures.value at c.in-Some.ensures.value)) c.time_of-at.ensures c.in_ok-others.ensures c.leave.ensures c.self.invariant.1 c.self.invariant.2

pub returns-clause-heard : goal.returns-clause-heard
returns-clause-heard c =
    rw (← c.self.view_is)
    (hears _ _ c.in-Some.event.now c.in_ok-first.first c.in_ok-others.others c.leave.new.left.items c.push-2.new.self.items c.what_of-what.new.buffer c.time_of-at.result c.what_of-what.result
    (front_is _ _ (rw c.deref.ensures.value at c.in-Some.ensures.value)) c.self.invariant.2 c.time_of-at.ensures c.in_ok-first.ensures c.in_ok-others.ensures c.leave.ensures c.in_ok-push-2.ensures.items c.what_of-what.ensures.told)
