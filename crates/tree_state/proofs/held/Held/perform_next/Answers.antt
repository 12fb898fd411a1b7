use Rattle.std.proofs.Common.{◌≡◌, ◌∙◌, length, sym, rules}
use Rattle.std.specs.Prelude.{vec_len}
use Rattle.tree_state.proofs.Folding.{next_done, next_stopped}
use Rattle.tree_state.proofs.held.Held.perform_next.Goals as goal

pub returns-in-Ok-clause-performs : goal.returns-in-Ok-clause-performs
returns-in-Ok-clause-performs g c = λ naming s change m im nm rf k.
    next_done s _ _ _ _ _ _ c.in-Ok.done _ (c.in-Ok.ensures.performs naming s change m im nm rf k) c.push_result.ensures.pushed c.push_result.ensures.memory

pub returns-in-Err-clause-performs : goal.returns-in-Err-clause-performs
returns-in-Err-clause-performs g c = λ naming s change m im nm rf k.
    let long : length c.args.results.now.items ≡ vec_len c.args.results.now = search rules in
    next_stopped _ s _ _ _ _ _ _ c.in-Err.stop c.len.result c.stop_at.result (c.in-Err.ensures.performs naming s change m im nm rf k) (c.len.ensures ∙ sym long) c.stop_at.ensures
