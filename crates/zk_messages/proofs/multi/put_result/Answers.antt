use Rattle.std.proofs.Common.{FitsSigned, w32, rules}
use Rattle.std.proofs.lemmas.Int.{to_z-of_z}
use Rattle.zk_messages.proofs.MultiLemmas.{add_created, add_created2, add_deleted, add_changed, add_checked, add_error}
use Rattle.zk_messages.proofs.multi.put_result.Goals as goal

pub returns-in_ok-put_ustring-in-Created-clause-ok : goal.returns-in_ok-put_ustring-in-Created-clause-ok
returns-in_ok-put_ustring-in-Created-clause-ok c =
    let p = rw c.as_str.ensures at c.in_ok-put_ustring-in-Created.ensures in
    rw c.in-Created.is (add_created _ _ _ _ c.in_ok-put_done-in-Created.ensures.ok p)

pub returns-in_ok-write-in-Created2-clause-ok : goal.returns-in_ok-write-in-Created2-clause-ok
returns-in_ok-write-in-Created2-clause-ok c =
    let p = rw c.as_str-in-Created2.ensures at c.in_ok-put_ustring-in-Created2.ensures in
    rw c.in-Created2.is (add_created2 _ _ _ _ _ _ c.in_ok-put_done-in-Created2.ensures.ok p c.in_ok-write-in-Created2.ensures)

pub returns-in_ok-put_done-in-Deleted-clause-ok : goal.returns-in_ok-put_done-in-Deleted-clause-ok
returns-in_ok-put_done-in-Deleted-clause-ok c = rw c.in-Deleted.is (add_deleted _ _ c.in_ok-put_done-in-Deleted.ensures.ok)

pub returns-in_ok-write-in-Changed-clause-ok : goal.returns-in_ok-write-in-Changed-clause-ok
returns-in_ok-write-in-Changed-clause-ok c =
    rw c.in-Changed.is (add_changed _ _ _ _ c.in_ok-put_done-in-Changed.ensures.ok c.in_ok-write-in-Changed.ensures)

pub returns-in_ok-put_done-in-Checked-clause-ok : goal.returns-in_ok-put_done-in-Checked-clause-ok
returns-in_ok-put_done-in-Checked-clause-ok c = rw c.in-Checked.is (add_checked _ _ c.in_ok-put_done-in-Checked.ensures.ok)

pub returns-in_ok-put_error-in-Error-clause-ok : goal.returns-in_ok-put_error-in-Error-clause-ok
returns-in_ok-put_error-in-Error-clause-ok c =
    let fits : FitsSigned w32 c.in-Error.code = search rules in
    let p = rw (to_z-of_z w32 c.in-Error.code fits) at c.in_ok-put_error-in-Error.ensures.ok in
    rw c.in-Error.is (add_error _ _ _ p)
