use Rattle.std.proofs.Common.{refl}
use Rattle.tree_server.proofs.Flushing.{sent_all, sent_part}
use Rattle.tree_server.proofs.lines.Lines.send.Goals as goal

pub returns-in-Err : goal.returns-in-Err
returns-in-Err c =
    sent_part c.args.self.now _ c.write.new.self c.hold_rest.new.self c.args.outputs c.in-Err.ensures.writes
    (record { lines = refl; unwritten = refl }) c.hold_rest.ensures

pub returns : goal.returns
returns c = sent_all c.args.self.now _ c.write.new.self c.args.outputs c.in_default.ensures.writes
    (record { lines = refl; unwritten = refl }) c.in_default.ensures.ok
