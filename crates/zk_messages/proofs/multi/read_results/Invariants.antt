use Rattle.std.proofs.Common.{length}
use Rattle.jute_core.specs.Jute.{Each}
use Rattle.zk_messages.specs.Multi.{SpellsResult}
use Rattle.zk_messages.specs.Reading.{Reaches}
use Rattle.zk_messages.proofs.multi.read_results.Given as goal

abbrev pub invariant-loop-results : goal.invariant-loop-results
invariant-loop-results l = Reaches l.initial.cursor l.cursor (Each SpellsResult l.results.items)

abbrev pub decreases-loop-results : goal.decreases-loop-results
decreases-loop-results l = length l.cursor.left
