use Rattle.std.proofs.Common.{rules}
use Rattle.zk_messages.proofs.MultiLemmas.{header_of, reach_op, fail_op}
use Rattle.zk_messages.proofs.multi.next_op.Goals as goal

pub returns-in_err-read_op-clause-refused : goal.returns-in_err-read_op-clause-refused
returns-in_err-read_op-clause-refused c =
    let marks = c.in_ok-judge-2.ensures.ok in
    let head = header_of c.in_ok-header.ensures.reads c.in-Some.ensures.some marks.0 marks.1 in
    let f = fail_op _ _ _ _ head c.in_err-read_op.ensures.refused in
    search rules

pub returns-clause-some : goal.returns-clause-some
returns-clause-some c =
    let marks = c.in_ok-judge-2.ensures.ok in
    let head = header_of c.in_ok-header.ensures.reads c.in-Some.ensures.some marks.0 marks.1 in
    reach_op _ _ _ _ _ head c.in_ok-read_op.ensures.kind c.in_ok-read_op.ensures.ok
