use Rattle.zk_messages.proofs.MultiLemmas.{add_op}
use Rattle.zk_messages.proofs.multi.put_op.Goals as goal

pub returns-clause-ok : goal.returns-clause-ok
returns-clause-ok c =
    let head = rw (c.number.ensures, c.kind.ensures) at c.in_ok-put.ensures.ok in
    add_op _ _ _ _ head c.in_ok-put_record.ensures
