use Rattle.std.proofs.Common.{arith}
use Rattle.relay_io.proofs.Rounds.{so_far_none, so_far_more, ran_to, ran_all, ran_nowhere}
use Rattle.relay_io.proofs.serving.serve_admitted.Goals as goal

pub returns-in_default : goal.returns-in_default
returns-in_default g c = ran_nowhere c.args.turns c.args.hall.now.table.shared.table_id c.args.connection c.args.pass.now (g.L.Line.told c.args.line.now) c.requires.pass

pub loop-turn-init : goal.loop-turn-init
loop-turn-init g c = (so_far_none c.args.hall.now.table.shared.table_id c.args.connection c.args.pass.now (g.L.Line.told c.args.line.now) c.requires.pass, c.in-Ok.ensures)

pub turn-requires-clause-pass : goal.turn-requires-clause-pass
turn-requires-clause-pass g c = c.loop-turn.invariant.0.did.is_pass

pub turn-requires-clause-named : goal.turn-requires-clause-named
turn-requires-clause-named g c = c.loop-turn.invariant.0.did.knows c.args.connection c.requires.named

pub returns-in-Err : goal.returns-in-Err
returns-in-Err g c = ran_to c.args.turns c.args.hall.now.table.shared.table_id c.args.connection c.args.pass.now c.loop-turn.pass c.turn.new.pass (g.L.Line.told c.args.line.now) (g.L.Line.told c.loop-turn.line) (g.L.Line.told c.turn.new.line)
    c.loop-turn._turn c.in-Err.ending c.loop-turn-test.true c.loop-turn.invariant.0 c.in-Err.ensures

pub loop-turn-preserved : goal.loop-turn-preserved
loop-turn-preserved g c = (
  so_far_more c.args.hall.now.table.shared.table_id c.args.connection c.args.pass.now c.loop-turn.pass c.turn.new.pass (g.L.Line.told c.args.line.now) (g.L.Line.told c.loop-turn.line) (g.L.Line.told c.turn.new.line)
      c.loop-turn._turn c.in_default-turn.field-0 c.loop-turn.invariant.0 c.in_default-turn.ensures,
  c.loop-turn.invariant.1,
)

pub returns : goal.returns
returns g c = ran_all c.args.turns c.args.hall.now.table.shared.table_id c.args.connection c.args.pass.now c.loop-turn.pass (g.L.Line.told c.args.line.now) (g.L.Line.told c.loop-turn.line) c.loop-turn._turn (omega (arith, c.loop-turn-test.false, c.loop-turn.auto._turn-end)) c.loop-turn.invariant.0
