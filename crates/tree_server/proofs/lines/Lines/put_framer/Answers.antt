use Rattle.std.proofs.Common.{refl}
use Rattle.tree_server.proofs.LineLists.{vec_set}
use Rattle.tree_server.proofs.OneLine.{put_in, none_missing}
use Rattle.tree_server.proofs.lines.Lines.put_framer.Goals as goal

pub returns-in-Some : goal.returns-in-Some
returns-in-Some c = λ past h a none limit part.
    put_in c.args.self.now _ c.args.connection c.in-Some.line.now c.put_framer.new.self c.args.framer
    (vec_set c.args.self.now.lines c.args.connection c.place.result c.in-Some.line.now c.put_framer.new.self c.place.ensures
    (c.in-Some.ensures.variant.0 refl) c.in-Some.ensures.value)
    refl c.put_framer.ensures past h none limit part

pub returns-in_default : goal.returns-in_default
returns-in_default c = λ past h a none limit part.
    absurd (none_missing c.args.self.now past c.args.connection c.place.result c.place.ensures c.in_default.ensures.variant.1 h a)
