use Rattle.std.proofs.Common.{◌≡◌, ◌++◌, replicate}
use Rattle.zk_messages.specs.declared.reply.OpResult.TheVariants.{Error}
use Rattle.tree_state.proofs.multi.push_codes.Given as goal

abbrev pub invariant-loop : goal.invariant-loop
invariant-loop l = l.results.items ≡ l.fn.results.items ++ replicate l.counter (Error l.fn.code)
