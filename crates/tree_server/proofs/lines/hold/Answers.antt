use Rattle.std.proofs.Common.{refl}
use Rattle.tree_server.proofs.LineLists.{few_lines, within_vec, past_vec, line_missing}
use Rattle.tree_server.proofs.Telling.{held_one, held_none}
use Rattle.tree_server.proofs.lines.hold.Goals as goal

pub returns-in-Some : goal.returns-in-Some
returns-in-Some c =
    held_one c.args.lines.now.items c.place.result c.in-Some.line.now c.hold.new.self c.note.new.self c.args.output.now _ c.place.ensures
    (few_lines c.args.lines.now)
    (within_vec c.args.lines.now c.place.result (c.in-Some.ensures.variant.0 refl)) c.in-Some.ensures.value c.frame_length-bytes.ensures
    c.hold.ensures c.note.ensures

pub returns-in_default : goal.returns-in_default
returns-in_default c =
    held_none c.args.lines.now.items c.args.output.now _
    (line_missing c.args.lines.now.items c.args.output.now.connection c.place.result c.place.ensures (few_lines c.args.lines.now)
    (past_vec c.args.lines.now c.place.result c.in_default.ensures.variant.1)) c.frame_length-bytes.ensures
