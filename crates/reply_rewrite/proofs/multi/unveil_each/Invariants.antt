use Rattle.std.proofs.Common.{take}
use Rattle.reply_rewrite.specs.Results.{ArePlainResults}
use Rattle.reply_rewrite.proofs.multi.unveil_each.Given as goal

abbrev pub invariant-loop-index : goal.invariant-loop-index
invariant-loop-index l = ArePlainResults l.keys l.failed (take l.index l.ops) (take l.index l.stored) l.plain.items
