use Rattle.std.proofs.Common.{take}
use Rattle.jute_core.specs.Jute.{Each}
use Rattle.zk_messages.specs.Multi.{SpellsResult}
use Rattle.store_side.specs.Counted.{IsCounted}
use Rattle.store_side.proofs.sizes.results_length.Given as goal

abbrev pub invariant-loop-value : goal.invariant-loop-value
invariant-loop-value l = IsCounted (Each SpellsResult (take l.value-index l.results)) l.total
