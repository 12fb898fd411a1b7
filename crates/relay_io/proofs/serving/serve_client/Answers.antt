use Rattle.relay_io.proofs.Rounds.{served_none, served_all, calls_all}
use Rattle.relay_io.proofs.serving.serve_client.Goals as goal

pub returns-in-Err-clause-served : goal.returns-in-Err-clause-served
returns-in-Err-clause-served g c = (_, c.in-Err.ensures.did.called, rw c.answer_of.ensures (served_none c.args.turns _ (g.L.Line.told c.args.line.now) c.in-Err.ending))

pub returns-clause-served : goal.returns-clause-served
returns-clause-served g c =
    let table = c.args.hall.now.table.shared.table_id in
    let r = c.serve_admitted-ending.ensures in
    let did = calls_all c.args.turns table c.in-Ok.connection c.args.pass.now c.admit.new.pass c.serve_admitted-ending.new.pass c.lose.new.pass (g.L.Line.told c.named.new.self) (g.L.Line.told c.serve_admitted-ending.new.line)
    c.serve_admitted-ending.result c.in-Ok.ensures.did r c.lose.ensures.did in (
      _,
      did.called,
      rw c.named.ensures at (served_all c.args.turns table c.in-Ok.connection _ c.admit.new.pass c.serve_admitted-ending.new.pass (g.L.Line.told c.named.new.self) (g.L.Line.told c.serve_admitted-ending.new.line)
          c.serve_admitted-ending.result c.in-Ok.ensures.did.number r),
    )
