use Rattle.tree_server.proofs.OneLine.{read_ending, read_none}
use Rattle.tree_server.proofs.lines.Lines.ending.Goals as goal

pub returns-in-Some : goal.returns-in-Some
returns-in-Some c =
    let found = c.in-Some.ensures.lookup in
    read_ending c.args.self.now c.deref.result.now c.args.connection c.place.result c.in-Some.line.now c.ending.result
    c.deref.ensures.value c.place.ensures found.3.0 found.1 c.ending.ensures

pub returns-in-None : goal.returns-in-None
returns-in-None c = λ past h a.
    absurd (read_none c.args.self.now c.deref.result.now c.args.connection c.place.result c.deref.ensures.value c.place.ensures
    c.in-None.ensures.lookup.3 past h a)
