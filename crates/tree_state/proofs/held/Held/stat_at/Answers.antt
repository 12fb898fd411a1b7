use Rattle.tree_state.proofs.Readings.{told_stat, no_stat, watched_places, lent, quiet_memory}
use Rattle.tree_state.proofs.held.Held.stat_at.Goals as goal

pub returns-in-Some : goal.returns-in-Some
returns-in-Some c = λ naming at s p m t.
    let w = c.in_ok-watch_content.ensures.ok s p m t in
    told_stat naming at c.args.connection s p _ c.watch_content.new.self c.in-Some.node.now c.stat.result w (c.in-Some.ensures s.nodes p (watched_places _ s _ _ p _ w) (lent _ _ p c.as_str.ensures t)) c.stat.ensures

pub returns-in-None : goal.returns-in-None
returns-in-None c = λ naming at s p m t.
    let w = c.in_ok-watch_content.ensures.ok s p m t in
    no_stat naming at c.args.connection s p _ c.watch_content.new.self w (c.in-None.ensures s.nodes p (watched_places _ s _ _ p _ w) (lent _ _ p c.as_str.ensures t))

pub returns-in_err-watch_content : goal.returns-in_err-watch_content
returns-in_err-watch_content c = λ naming at s p m t. quiet_memory s _ c.watch_content.new.self _ _ (c.in_err-watch_content.ensures.err s m) c.from_residual.ensures.1
