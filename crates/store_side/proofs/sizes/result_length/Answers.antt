use Rattle.std.proofs.Common.{FitsSigned, w32, rules, arith}
use Rattle.store_side.proofs.CountedReplies.{count_created, count_deleted, count_changed, count_checked, count_error, count_created2}
use Rattle.store_side.proofs.sizes.result_length.Goals as goal

pub returns-in-Created : goal.returns-in-Created
returns-in-Created c = rw c.in-Created.is (count_created _ _ _ c.text_length.ensures c.saturating_add.ensures)

pub returns-in-Deleted : goal.returns-in-Deleted
returns-in-Deleted c = rw c.in-Deleted.is count_deleted

pub returns-in-Changed : goal.returns-in-Changed
returns-in-Changed c = rw c.in-Changed.is (count_changed _ _ _ c.stat_length.ensures c.saturating_add-in-Changed.ensures)

pub returns-in-Checked : goal.returns-in-Checked
returns-in-Checked c = rw c.in-Checked.is count_checked

pub returns-in-Error : goal.returns-in-Error
returns-in-Error c =
    let fits : FitsSigned w32 c.in-Error.code = search rules in
    rw c.in-Error.is (count_error _ _ fits (omega arith))

pub returns-in-Created2 : goal.returns-in-Created2
returns-in-Created2 c =
    rw c.in-Created2.is (count_created2 _ _ _ _ _ _ c.text_length-in-Created2.ensures c.stat_length-in-Created2.ensures
    c.saturating_add-in-Created2.ensures c.saturating_add-in-Created2-2.ensures)
