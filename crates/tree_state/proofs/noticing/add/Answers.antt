use Rattle.tree_state.specs.Noticing.{watch_of}
use Rattle.tree_state.proofs.Unwatching.{forgets_new, forgets_there}
use Rattle.tree_state.proofs.noticing.add.Goals as goal

pub returns-then-branch-clause-back : goal.returns-then-branch-clause-back
returns-then-branch-clause-back c = λ ws start p watched text h.
    forgets_new c.args.asker.now.connection c.args.added.now.items c.reserve.new.self.items c.push_reserved.new.self.items
    (record { interest = c.args.interest; path = c.args.path }) ws start p c.in_ok-watch.field-0 c.reserve.ensures.items c.push_reserved.ensures.items
    (c.in_ok-watch.ensures.new ws p watched text) c.if-branch.true text h

pub returns-else-branch-clause-back : goal.returns-else-branch-clause-back
returns-else-branch-clause-back c = λ ws start p watched text h.
    forgets_there c.args.asker.now.connection c.args.added.now.items c.reserve.new.self.items (watch_of c.args.interest p c.args.asker.now.connection) ws start
    c.in_ok-watch.field-0 c.reserve.ensures.items (c.in_ok-watch.ensures.new ws p watched text) c.if-branch.false h
