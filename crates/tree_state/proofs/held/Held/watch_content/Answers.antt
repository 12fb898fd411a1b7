use Rattle.tree_state.proofs.Readings.{watch_kept, no_watch, lent}
use Rattle.tree_state.proofs.held.Held.watch_content.Goals as goal

pub returns-in_ok-watch_content-clause-ok : goal.returns-in_ok-watch_content-clause-ok
returns-in_ok-watch_content-clause-ok c = λ s p m t. watch_kept c.args.self.now _ s _ _ p c.args.connection c.if-asked.true m (c.in_ok-watch_content.ensures.ok s.watches p m.watches (lent _ _ p c.as_str.ensures t))

pub returns-else-asked-clause-ok : goal.returns-else-asked-clause-ok
returns-else-asked-clause-ok c = λ s p m t. no_watch c.args.self.now s _ _ p c.args.connection c.if-asked.false m
