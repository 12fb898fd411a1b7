use Rattle.std.proofs.Common.{w64}
use Rattle.std.specs.Prelude.{Ok, Err}
use Rattle.std.proofs.lemmas.Int.{to_z-of_z}
use Rattle.relay_io.proofs.Rounds.{does_no_piece, does_piece}
use Rattle.relay_io.proofs.serving.serve_piece.Goals as goal

pub returns-in_default : goal.returns-in_default
returns-in_default g c = does_no_piece c.args.hall.now.table.shared.table_id c.args.connection c.args.pass.now (g.L.Line.told c.args.line.now) c.args.at c.args.piece.now c.requires.pass

pub returns-in-Err : goal.returns-in-Err
returns-in-Err g c = rw c.answer_of.ensures (rw c.in-Ok.ensures at (does_piece c.args.hall.now.table.shared.table_id c.args.connection c.args.pass.now c.feed-fed.new.pass c.hand_down-handed.new.pass
    (g.L.Line.told c.args.line.now) (g.L.Line.told c.hand_down-handed.new.line) c.args.at c.in-Ok.piece (Err c.in-Err.ending) c.hand_down-handed.result (rw (to_z-of_z w64 c.args.at c.ranges.at) at c.in-Err.ensures.did) c.hand_down-handed.ensures))

pub returns-in-Err-handed : goal.returns-in-Err-handed
returns-in-Err-handed g c = rw c.answer_to.ensures (rw c.in-Ok.ensures at (does_piece c.args.hall.now.table.shared.table_id c.args.connection c.args.pass.now c.feed-fed.new.pass c.hand_down-handed.new.pass
    (g.L.Line.told c.args.line.now) (g.L.Line.told c.hand_down-handed.new.line) c.args.at c.in-Ok.piece (Ok c.in_default-fed.field-0) (Err c.in-Err-handed.cut) (rw (to_z-of_z w64 c.args.at c.ranges.at) at c.in_default-fed.ensures.did) c.in-Err-handed.ensures))

pub returns : goal.returns
returns g c = rw c.in-Ok.ensures at (does_piece c.args.hall.now.table.shared.table_id c.args.connection c.args.pass.now c.feed-fed.new.pass c.hand_down-handed.new.pass
    (g.L.Line.told c.args.line.now) (g.L.Line.told c.hand_down-handed.new.line) c.args.at c.in-Ok.piece (Ok c.in_default-fed.field-0) (Ok c.in_default-handed.field-0) (rw (to_z-of_z w64 c.args.at c.ranges.at) at c.in_default-fed.ensures.did) c.in_default-handed.ensures)
