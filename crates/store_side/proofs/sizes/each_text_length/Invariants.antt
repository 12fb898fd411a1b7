use Rattle.std.proofs.Common.{take}
use Rattle.jute_core.specs.Jute.{Spells, Each, ustring}
use Rattle.store_side.specs.Counted.{IsCounted}
use Rattle.store_side.proofs.sizes.each_text_length.Given as goal

abbrev pub invariant-loop-text : goal.invariant-loop-text
invariant-loop-text l = IsCounted (Each (Spells ustring) (take l.text-index l.texts)) l.total
