use Rattle.tree_server.proofs.Flushing.{flush_done, flush_part}
use Rattle.tree_server.proofs.lines.Lines.flush.Goals as goal

pub returns-clause-ok : goal.returns-clause-ok
returns-clause-ok c = flush_done _ _ _ c.write.ensures.writes c.write.ensures.ok

pub returns-clause-err : goal.returns-clause-err
returns-clause-err c = flush_part _ _ _ c.write.ensures.writes c.write.ensures.err
