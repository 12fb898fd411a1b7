use Rattle.tree_state.proofs.Readings.{told_names, told_names_stat, no_children, lent, quiet_memory}
use Rattle.tree_state.proofs.held.Held.children_at.Goals as goal

pub returns-in_default : goal.returns-in_default
returns-in_default c = λ naming at s p m t. no_children naming at c.args.connection s p _ c.args.with_stat c.args.self.now m (c.in_default.ensures s.nodes p m.places (lent _ _ p c.as_str.ensures t))

pub returns-then-with_stat : goal.returns-then-with_stat
returns-then-with_stat c = λ naming at s p m t.
    told_names_stat naming at c.args.connection s p _ c.args.with_stat c.watch_children.new.self c.in-Some.node.now _ c.stat-stat.result c.if-with_stat.true (c.in_ok-watch_children.ensures.ok s p m t)
    (c.in-Some.ensures s.nodes p m.places (lent _ _ p c.as_str.ensures t)) c.in_ok-child_names.ensures c.stat-stat.ensures

pub returns : goal.returns
returns c = λ naming at s p m t.
    told_names naming at c.args.connection s p _ c.args.with_stat c.watch_children.new.self c.in-Some.node.now _ c.if-with_stat.false (c.in_ok-watch_children.ensures.ok s p m t)
    (c.in-Some.ensures s.nodes p m.places (lent _ _ p c.as_str.ensures t)) c.in_ok-child_names.ensures

pub returns-in_err-watch_children : goal.returns-in_err-watch_children
returns-in_err-watch_children c = λ naming at s p m t. quiet_memory s _ c.watch_children.new.self _ _ (c.in_err-watch_children.ensures.err s m) c.from_residual-in_err-watch_children.ensures.1

pub returns-in_err-child_names : goal.returns-in_err-child_names
returns-in_err-child_names c = λ naming at s p m t. quiet_memory s _ c.args.self.now _ _ m c.from_residual.ensures.1
