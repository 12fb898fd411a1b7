use Rattle.std.proofs.Common.{sym, subst, List, ℕ}
use Rattle.zk_messages.specs.declared.reply.Outcome.TheVariants as outcomes
use Rattle.tree_state.specs.Commands.{sync}
use Rattle.tree_state.specs.Step.{answer}
use Rattle.tree_state.specs.Trees.{Tells}
use Rattle.tree_state.proofs.Alone.{told_sync}
use Rattle.tree_state.proofs.reading.sync_at.Goals as goal

pub returns : goal.returns
returns c = λ naming at k s p t. subst (λ (x : List ℕ). Tells s (answer naming at k s (sync p)) (outcomes.Path x)) (sym c.in_ok-copy_of.ensures) (told_sync naming at k s p _ t)
