use Rattle.std.proofs.Common.{refl}
use Rattle.tree_server.proofs.LineLists.{vec_set}
use Rattle.tree_server.proofs.OneLine.{taken_out, found_over, none_missing}
use Rattle.tree_server.proofs.lines.Lines.take_framer.Goals as goal

pub returns-in_default-clause-over : goal.returns-in_default-clause-over
returns-in_default-clause-over c = λ past h a.
    absurd (none_missing c.args.self.now past c.args.connection c.place.result c.place.ensures c.in_default.ensures.variant.1 h a)

pub returns-clause-open : goal.returns-clause-open
returns-clause-open c =
    taken_out c.args.self.now _ c.args.connection c.in-Some.line.now c.take_framer.new.self c.take_framer.result
    (vec_set c.args.self.now.lines c.args.connection c.place.result c.in-Some.line.now c.take_framer.new.self c.place.ensures
    (c.in-Some.ensures.variant.0 refl) c.in-Some.ensures.value)
    refl c.take_framer.ensures.taken c.take_framer.ensures.kept

pub returns-clause-over : goal.returns-clause-over
returns-clause-over c =
    found_over c.args.self.now _ c.args.connection c.in-Some.line.now c.take_framer.new.self c.take_framer.result
    (vec_set c.args.self.now.lines c.args.connection c.place.result c.in-Some.line.now c.take_framer.new.self c.place.ensures
    (c.in-Some.ensures.variant.0 refl) c.in-Some.ensures.value)
    refl c.take_framer.ensures.taken c.take_framer.ensures.kept
