use Rattle.std.proofs.Common.{false, refl}
use Rattle.tree_server.proofs.LineLists.{vec_set}
use Rattle.tree_server.proofs.OneLine.{noted}
use Rattle.tree_server.proofs.lines.Lines.told.Goals as goal

pub returns-in-Some : goal.returns-in-Some
returns-in-Some c =
    noted c.args.self.now _ c.in_ok-connection.connection c.in-Some.line.now c.forget_note.new.self false
    (vec_set c.args.self.now.lines c.in_ok-connection.connection c.place.result c.in-Some.line.now c.forget_note.new.self c.place.ensures
    (c.in-Some.ensures.variant.0 refl) c.in-Some.ensures.value)
    refl c.forget_note.ensures
