use Rattle.std.proofs.Common.{take}
use Rattle.jute_core.specs.Jute.{Each}
use Rattle.zk_messages.specs.Multi.{SpellsResult}
use Rattle.zk_messages.specs.Sending.{AddsBytes}
use Rattle.zk_messages.proofs.multi.put_results.Given as goal

abbrev pub invariant-loop-value : goal.invariant-loop-value
invariant-loop-value l = AddsBytes l.initial.into.items l.into.items (Each SpellsResult (take l.value-index l.results))
