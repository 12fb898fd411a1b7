use Rattle.jute_core.specs.Jute.{ustring}
use Rattle.store_side.proofs.Counted.{count_vector, count_no_vector}
use Rattle.store_side.proofs.sizes.texts_length.Goals as goal

pub returns-in-Some : goal.returns-in-Some
returns-in-Some c =
    let short = rw c.in-Some.is at c.requires in
    let each = rw c.as_slice.ensures at c.each_text_length.ensures in
    rw c.in-Some.is (count_vector ustring _ _ _ short.few each c.saturating_add.ensures)

pub returns-in-None : goal.returns-in-None
returns-in-None c = rw c.in-None.is (count_no_vector ustring)
