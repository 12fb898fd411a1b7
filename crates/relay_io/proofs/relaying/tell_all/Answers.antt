use Rattle.relay_io.proofs.Telling.{tells_next}
use Rattle.relay_io.proofs.relaying.tell_all.Goals as goal

pub loop-finding-preserved : goal.loop-finding-preserved
loop-finding-preserved g c = tells_next g.B.Teller.Told _ _ _ _ _ _ c.loop-finding-test.true c.loop-finding.invariant c.tell.ensures.told
