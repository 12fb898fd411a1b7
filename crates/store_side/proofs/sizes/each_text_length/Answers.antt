use Rattle.jute_core.specs.Jute.{Spells, ustring}
use Rattle.store_side.proofs.Counted.{count_next}
use Rattle.store_side.proofs.sizes.each_text_length.Goals as goal

pub loop-text-preserved : goal.loop-text-preserved
loop-text-preserved c =
    count_next (Spells ustring) _ _ _ _ _ _ c.loop-text.invariant c.loop-text-test.true c.text-item.is c.text_length.ensures
    c.saturating_add-total.ensures
