use Rattle.zk_frame.proofs.Writing.{adds_frame}
use Rattle.zk_frame.proofs.write.write_frame.Goals as goal

pub returns-clause-ok : goal.returns-clause-ok
returns-clause-ok c = adds_frame _ _ _ c.in_ok-put_buffer.ensures
