use Rattle.std.proofs.Common.{rules, w64, FitsSigned}
use Rattle.std.proofs.lemmas.Int.{to_z-of_z}
use Rattle.relay_io.proofs.Rounds.{turned_by, turned_end, turned_failed}
use Rattle.relay_io.proofs.serving.turn.Goals as goal

pub returns-in-Bytes : goal.returns-in-Bytes
returns-in-Bytes g c =
    let e = rw c.in-Bytes.is at c.next-heard.ensures in
    let f : FitsSigned w64 c.next-heard.result.at = search rules in
    turned_by c.args.hall.now.table.shared.table_id c.args.connection c.args.pass.now c.serve_piece.new.pass (g.L.Line.told c.args.line.now) (g.L.Line.told c.next-heard.new.self) (g.L.Line.told c.serve_piece.new.line)
    _ c.serve_piece.result e.grew e.counts e.unwritten (rw (to_z-of_z w64 c.next-heard.result.at f) at c.serve_piece.ensures)

pub returns-in-Idle : goal.returns-in-Idle
returns-in-Idle g c =
    let f : FitsSigned w64 c.next-heard.result.at = search rules in
    let e = rw c.in-Idle.is at c.next-heard.ensures in
    turned_by c.args.hall.now.table.shared.table_id c.args.connection c.args.pass.now c.serve_idle.new.pass (g.L.Line.told c.args.line.now) (g.L.Line.told c.next-heard.new.self) (g.L.Line.told c.serve_idle.new.line)
    _ c.serve_idle.result e.grew e.counts e.unwritten (rw (to_z-of_z w64 c.next-heard.result.at f) at c.serve_idle.ensures)

pub returns-in-End : goal.returns-in-End
returns-in-End g c =
    let e = rw c.in-End.is at c.next-heard.ensures in
    turned_end c.args.hall.now.table.shared.table_id c.args.connection c.args.pass.now (g.L.Line.told c.args.line.now) (g.L.Line.told c.next-heard.new.self) c.next-heard.result.at c.requires.pass e.grew e.counts e.unwritten

pub returns-in-Failed : goal.returns-in-Failed
returns-in-Failed g c =
    let e = rw c.in-Failed.is at c.next-heard.ensures in
    turned_failed c.args.hall.now.table.shared.table_id c.args.connection c.args.pass.now (g.L.Line.told c.args.line.now) (g.L.Line.told c.next-heard.new.self) c.requires.pass e.grew e.counts e.unwritten
