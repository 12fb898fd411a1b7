use Rattle.std.proofs.Common.{refl, arith}
use Rattle.std.specs.Prelude.{Ok, Err}
use Rattle.relay_io.proofs.Writing.{wrote_ok, wrote_front}
use Rattle.relay_io.proofs.Handing.{begins, goes_on, ends_all, ends_unwritten, ends_refused}
use Rattle.relay_io.proofs.pulling.hand_down.Goals as goal

pub loop-init : goal.loop-init
loop-init g c = begins c.args.hall.now.table.shared.table_id c.args.connection c.args.pass.now (g.L.Line.told c.args.line.now) c.requires.pass

pub pull-requires-clause-pass : goal.pull-requires-clause-pass
pull-requires-clause-pass g c = c.loop.invariant.did.is_pass

pub pull-requires-clause-named : goal.pull-requires-clause-named
pull-requires-clause-named g c = c.loop.invariant.did.knows c.args.connection c.requires.named

pub returns-in_default : goal.returns-in_default
returns-in_default g c = ends_refused c.args.hall.now.table.shared.table_id c.args.connection c.args.pass.now c.loop.pass c.pull.new.pass (g.L.Line.told c.args.line.now) (g.L.Line.told c.loop.line) c.loop.invariant c.in_default.ensures.did

pub returns-in-Err : goal.returns-in-Err
returns-in-Err g c =
    let e = c.in-Err.ensures in
    let front = wrote_front _ _ _ (Err c.in-Err.field-0) c.in-Err.field-0 refl (rw c.as_slice.ensures at e.bytes) in
    ends_unwritten c.args.hall.now.table.shared.table_id c.args.connection c.args.pass.now c.loop.pass c.pull.new.pass (g.L.Line.told c.args.line.now) (g.L.Line.told c.loop.line)
    (g.L.Line.told c.write_down.new.line) c.in-Ok.bytes c.loop.invariant c.in-Ok.ensures.did front e.cause.failed e.unheard e.cause.later

pub returns-then-len-lt-LIMIT : goal.returns-then-len-lt-LIMIT
returns-then-len-lt-LIMIT g c =
    let e = c.in_default-write_down.ensures in
    let wrote = wrote_ok _ _ _ (Ok c.in_default-write_down.field-0) c.in_default-write_down.field-0 refl (rw c.as_slice.ensures at e.bytes) in
    ends_all c.args.hall.now.table.shared.table_id c.args.connection c.args.pass.now c.loop.pass c.pull.new.pass (g.L.Line.told c.args.line.now) (g.L.Line.told c.loop.line)
    (g.L.Line.told c.write_down.new.line) c.in-Ok.bytes _ c.loop.invariant c.in-Ok.ensures.did wrote e.unheard e.cause.later (omega (arith, c.len.ensures, c.if-len-lt-LIMIT.true))

pub loop-preserved : goal.loop-preserved
loop-preserved g c =
    let e = c.in_default-write_down.ensures in
    let wrote = wrote_ok _ _ _ (Ok c.in_default-write_down.field-0) c.in_default-write_down.field-0 refl (rw c.as_slice.ensures at e.bytes) in
    goes_on c.args.hall.now.table.shared.table_id c.args.connection c.args.pass.now c.loop.pass c.pull.new.pass (g.L.Line.told c.args.line.now) (g.L.Line.told c.loop.line)
    (g.L.Line.told c.write_down.new.line) c.in-Ok.bytes c.loop.invariant c.in-Ok.ensures.did wrote e.unheard e.cause.later (omega (arith, c.len.ensures, c.if-len-lt-LIMIT.false))
