use Rattle.std.proofs.Common.{refl}
use Rattle.tree_server.proofs.LineLists.{few_lines, within_vec, past_vec, line_missing}
use Rattle.tree_server.proofs.Telling.{told_one, told_none}
use Rattle.tree_server.proofs.lines.tell.Goals as goal

pub returns-in_ok-tell-clause-ok : goal.returns-in_ok-tell-clause-ok
returns-in_ok-tell-clause-ok c =
    told_one c.args.lines.now.items c.place.result c.in-Some.line.now c.tell.new.self c.note.new.self c.args.output.now c.place.ensures
    (few_lines c.args.lines.now)
    (within_vec c.args.lines.now c.place.result (c.in-Some.ensures.variant.0 refl)) c.in-Some.ensures.value c.in_ok-tell.ensures.ok
    c.note.ensures

pub returns-in_default-clause-ok : goal.returns-in_default-clause-ok
returns-in_default-clause-ok c =
    told_none c.args.lines.now.items c.args.output.now
    (line_missing c.args.lines.now.items c.args.output.now.connection c.place.result c.place.ensures (few_lines c.args.lines.now)
    (past_vec c.args.lines.now c.place.result c.in_default.ensures.variant.1))
