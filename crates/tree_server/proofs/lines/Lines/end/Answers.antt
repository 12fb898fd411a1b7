use Rattle.std.proofs.Common.{refl}
use Rattle.tree_server.proofs.LineLists.{vec_set}
use Rattle.tree_server.proofs.OneLine.{ends, stays_over, none_missing}
use Rattle.tree_server.proofs.lines.Lines.end.Goals as goal

pub returns-in-Some-clause-ends : goal.returns-in-Some-clause-ends
returns-in-Some-clause-ends c = λ past h a none.
    ends c.args.self.now _ c.args.connection c.in-Some.line.now c.end.new.self c.args.ending
    (vec_set c.args.self.now.lines c.args.connection c.place.result c.in-Some.line.now c.end.new.self c.place.ensures
    (c.in-Some.ensures.variant.0 refl) c.in-Some.ensures.value)
    refl c.end.ensures past h none

pub returns-in-Some-clause-over : goal.returns-in-Some-clause-over
returns-in-Some-clause-over c =
    stays_over c.args.self.now _ c.args.connection c.in-Some.line.now c.end.new.self c.args.ending
    (vec_set c.args.self.now.lines c.args.connection c.place.result c.in-Some.line.now c.end.new.self c.place.ensures
    (c.in-Some.ensures.variant.0 refl) c.in-Some.ensures.value)
    refl c.end.ensures

pub returns-in_default-clause-ends : goal.returns-in_default-clause-ends
returns-in_default-clause-ends c = λ past h a none.
    absurd (none_missing c.args.self.now past c.args.connection c.place.result c.place.ensures c.in_default.ensures.variant.1 h a)
