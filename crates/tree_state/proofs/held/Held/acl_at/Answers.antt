use Rattle.tree_state.proofs.Readings.{told_acl, no_acl}
use Rattle.tree_state.proofs.held.Held.acl_at.Goals as goal

pub returns-in_default : goal.returns-in_default
returns-in_default c = λ naming at k s p m t. no_acl naming at k s p (c.in_default.ensures s.nodes p m.places t)

pub returns : goal.returns
returns c = λ naming at k s p m t. told_acl naming at k s p c.in-Some.node.now _ c.stat.result (c.in-Some.ensures s.nodes p m.places t) c.in_ok-open_acls.ensures c.stat.ensures
