use Rattle.store_side.proofs.CountedReplies.{count_no_outcome, count_empty, count_path, count_node, count_content, count_access, count_children, count_children2, count_multi, count_made}
use Rattle.store_side.proofs.sizes.outcome_length.Goals as goal

pub returns-in-Error : goal.returns-in-Error
returns-in-Error c =
    let other = rw c.in-Error.is at c.requires in
    rw c.in-Error.is (count_no_outcome _ other)

pub returns-in-Empty : goal.returns-in-Empty
returns-in-Empty c = rw c.in-Empty.is count_empty

pub returns-in-Path : goal.returns-in-Path
returns-in-Path c = rw c.in-Path.is (count_path _ _ c.text_length.ensures)

pub returns-in-Stat : goal.returns-in-Stat
returns-in-Stat c = rw c.in-Stat.is (count_node _ _ c.stat_length.ensures)

pub returns-in-Content : goal.returns-in-Content
returns-in-Content c =
    rw c.in-Content.is (count_content _ _ _ _ _ c.bytes_length.ensures c.stat_length-in-Content.ensures c.saturating_add.ensures)

pub returns-in-Acls : goal.returns-in-Acls
returns-in-Acls c =
    rw c.in-Acls.is (count_access _ _ _ _ _ c.acls_length.ensures c.stat_length-in-Acls.ensures c.saturating_add-in-Acls.ensures)

pub returns-in-Children : goal.returns-in-Children
returns-in-Children c = rw c.in-Children.is (count_children _ _ c.texts_length.ensures)

pub returns-in-Children2 : goal.returns-in-Children2
returns-in-Children2 c =
    rw c.in-Children2.is (count_children2 _ _ _ _ _ c.texts_length-in-Children2.ensures c.stat_length-in-Children2.ensures
    c.saturating_add-in-Children2.ensures)

pub returns-in-Multi : goal.returns-in-Multi
returns-in-Multi c =
    let all = rw c.as_slice.ensures at c.results_length.ensures in
    rw c.in-Multi.is (count_multi _ _ all)

pub returns-in-Created2 : goal.returns-in-Created2
returns-in-Created2 c =
    rw c.in-Created2.is (count_made _ _ _ _ _ c.text_length-in-Created2.ensures c.stat_length-in-Created2.ensures
    c.saturating_add-in-Created2.ensures)
