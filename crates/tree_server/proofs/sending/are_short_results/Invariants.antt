use Rattle.std.proofs.Common.{take}
use Rattle.std.specs.Prelude.{All}
use Rattle.zk_messages.specs.Sending.{IsShortResult}
use Rattle.tree_server.proofs.sending.are_short_results.Given as goal

abbrev pub invariant-loop-value : goal.invariant-loop-value
invariant-loop-value l = All IsShortResult (take l.value-index l.results)
