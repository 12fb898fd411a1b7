use Rattle.tree_state.proofs.Readings.{told_content, no_content, lent, quiet_memory}
use Rattle.tree_state.proofs.held.Held.content_at.Goals as goal

pub returns-in_default : goal.returns-in_default
returns-in_default c = λ naming at s p m t. no_content naming at c.args.connection s p _ c.args.self.now m (c.in_default.ensures s.nodes p m.places (lent _ _ p c.as_str.ensures t))

pub returns : goal.returns
returns c = λ naming at s p m t.
    told_content naming at c.args.connection s p _ c.watch_content.new.self c.in-Some.node.now _ c.stat.result (c.in_ok-watch_content.ensures.ok s p m t)
    (c.in-Some.ensures s.nodes p m.places (lent _ _ p c.as_str.ensures t)) c.in_ok-content.ensures c.stat.ensures

pub returns-in_err-watch_content : goal.returns-in_err-watch_content
returns-in_err-watch_content c = λ naming at s p m t. quiet_memory s _ c.watch_content.new.self _ _ (c.in_err-watch_content.ensures.err s m) c.from_residual-in_err-watch_content.ensures.1

pub returns-in_err-content : goal.returns-in_err-content
returns-in_err-content c = λ naming at s p m t. quiet_memory s _ c.args.self.now _ _ m c.from_residual.ensures.1
