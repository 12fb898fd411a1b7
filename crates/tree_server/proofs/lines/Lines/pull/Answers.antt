use Rattle.std.proofs.Common.{refl}
use Rattle.tree_server.proofs.LineLists.{vec_line, vec_set}
use Rattle.tree_server.proofs.Pulling.{pull_count, pull_moved, pull_left, pull_same, pull_none}
use Rattle.tree_server.proofs.lines.Lines.pull.Goals as goal

pub returns-in_default-clause-count : goal.returns-in_default-clause-count
returns-in_default-clause-count c = λ past h a.
    absurd (pull_none c.args.self.now c.flush.new.self past c.args.connection c.place.result c.in_ok-flush.ensures.ok c.place.ensures
    c.in_default.ensures.variant.1 h a)

pub returns-clause-count : goal.returns-clause-count
returns-clause-count c =
    pull_count c.args.self.now c.flush.new.self c.args.connection c.args.limit c.in-Some.line.now c.pull.result c.in_ok-flush.ensures.ok
    (vec_line c.flush.new.self.lines c.args.connection c.place.result c.in-Some.line.now c.place.ensures (c.in-Some.ensures.variant.0 refl)
    c.in-Some.ensures.value)
    c.pull.ensures.count

pub returns-clause-moved : goal.returns-clause-moved
returns-clause-moved c =
    pull_moved c.args.self.now c.flush.new.self c.args.connection c.in-Some.line.now c.pull.result c.args.into.now.items
    c.pull.new.into.items c.in_ok-flush.ensures.ok
    (vec_line c.flush.new.self.lines c.args.connection c.place.result c.in-Some.line.now c.place.ensures (c.in-Some.ensures.variant.0 refl)
    c.in-Some.ensures.value)
    c.pull.ensures.moved

pub returns-clause-left : goal.returns-clause-left
returns-clause-left c =
    pull_left c.args.self.now c.flush.new.self _ c.args.connection c.in-Some.line.now c.pull.new.self c.pull.result c.in_ok-flush.ensures.ok
    (vec_set c.flush.new.self.lines c.args.connection c.place.result c.in-Some.line.now c.pull.new.self c.place.ensures
    (c.in-Some.ensures.variant.0 refl) c.in-Some.ensures.value)
    refl c.pull.ensures.left

pub returns-clause-same : goal.returns-clause-same
returns-clause-same c =
    pull_same c.args.self.now c.flush.new.self _ c.args.connection c.in-Some.line.now c.pull.new.self c.pull.result c.in_ok-flush.ensures.ok
    (vec_set c.flush.new.self.lines c.args.connection c.place.result c.in-Some.line.now c.pull.new.self c.place.ensures
    (c.in-Some.ensures.variant.0 refl) c.in-Some.ensures.value)
    refl c.pull.ensures.err
