use Rattle.std.proofs.Common.{rules}
use Rattle.zk_messages.proofs.MultiLemmas.{header_of, reach_error, reach_done, fail_done}
use Rattle.zk_messages.proofs.multi.next_result.Goals as goal

pub returns-then-header-clause-some : goal.returns-then-header-clause-some
returns-then-header-clause-some c =
    let repeated = c.in_ok-read_repeat.ensures.ok in
    reach_error _ _ _ _ c.in_ok-header.ensures.reads c.if-header.true c.if-header-2.false repeated.0 repeated.1

pub returns-in_err-read_done-clause-refused : goal.returns-in_err-read_done-clause-refused
returns-in_err-read_done-clause-refused c =
    let marks = c.in_ok-judge-2.ensures.ok in
    let head = header_of c.in_ok-header.ensures.reads c.in-Some.ensures.some marks.0 marks.1 in
    let f = fail_done _ _ _ _ head c.in_err-read_done.ensures.refused in
    search rules

pub returns-clause-some : goal.returns-clause-some
returns-clause-some c =
    let marks = c.in_ok-judge-2.ensures.ok in
    let head = header_of c.in_ok-header.ensures.reads c.in-Some.ensures.some marks.0 marks.1 in
    reach_done _ _ _ _ _ head c.in_ok-read_done.ensures.ok
