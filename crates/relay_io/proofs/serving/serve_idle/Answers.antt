use Rattle.std.proofs.Common.{w64}
use Rattle.std.specs.Prelude.{Ok, Err}
use Rattle.std.proofs.lemmas.Int.{to_z-of_z}
use Rattle.relay_io.proofs.Rounds.{does_no_tick, does_tick}
use Rattle.relay_io.proofs.serving.serve_idle.Goals as goal

pub returns-in-Err : goal.returns-in-Err
returns-in-Err g c = does_no_tick c.args.hall.now.table.shared.table_id c.args.connection c.args.pass.now c.tick.new.pass (g.L.Line.told c.args.line.now) c.args.at (rw (to_z-of_z w64 c.args.at c.ranges.at) at c.in-Err.ensures.did)

pub returns-in-Err-hand_down : goal.returns-in-Err-hand_down
returns-in-Err-hand_down g c = rw c.answer_to.ensures (does_tick c.args.hall.now.table.shared.table_id c.args.connection c.args.pass.now c.tick.new.pass c.hand_down.new.pass
    (g.L.Line.told c.args.line.now) (g.L.Line.told c.hand_down.new.line) c.args.at (Err c.in-Err-hand_down.cut) (rw (to_z-of_z w64 c.args.at c.ranges.at) at c.in_default.ensures.did) c.in-Err-hand_down.ensures)

pub returns : goal.returns
returns g c = does_tick c.args.hall.now.table.shared.table_id c.args.connection c.args.pass.now c.tick.new.pass c.hand_down.new.pass
    (g.L.Line.told c.args.line.now) (g.L.Line.told c.hand_down.new.line) c.args.at (Ok c.in_default-hand_down.field-0) (rw (to_z-of_z w64 c.args.at c.ranges.at) at c.in_default.ensures.did) c.in_default-hand_down.ensures
