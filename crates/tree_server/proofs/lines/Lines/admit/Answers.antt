use Rattle.std.proofs.Common.{refl}
use Rattle.tree_server.proofs.OneLine.{admitted_next}
use Rattle.tree_server.proofs.lines.Lines.admit.Goals as goal

pub returns-clause-number : goal.returns-clause-number
returns-clause-number c =
    let number = c.in-Ok.ensures in
    admitted_next c.args.self.now _ c.new.result _ c.in-Ok.number c.len.result c.push.ensures.items c.if-is_err.ensures.negation refl
    c.new.ensures c.len.ensures number.1 number.0
