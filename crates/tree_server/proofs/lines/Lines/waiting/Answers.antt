use Rattle.tree_server.proofs.OneLine.{read_most, read_none, read_waiting}
use Rattle.tree_server.proofs.lines.Lines.waiting.Goals as goal

pub returns-in-Some-clause-all : goal.returns-in-Some-clause-all
returns-in-Some-clause-all c =
    let found = c.in-Some.ensures.lookup in
    read_waiting c.args.self.now c.deref.result.now c.args.connection c.place.result c.in-Some.line.now c.len.result
    c.saturating_add.result c.deref.ensures.value c.place.ensures found.3.0 found.1
    c.len.ensures c.len.type_inv c.saturating_add.ensures

pub returns-in-Some-clause-most : goal.returns-in-Some-clause-most
returns-in-Some-clause-most c =
    let found = c.in-Some.ensures.lookup in
    read_most c.args.self.now c.deref.result.now c.args.connection c.place.result c.in-Some.line.now c.len.result
    c.saturating_add.result c.deref.ensures.value c.place.ensures found.3.0 found.1
    c.len.ensures c.saturating_add.ensures

pub returns-in-None-clause-all : goal.returns-in-None-clause-all
returns-in-None-clause-all c = λ past h a w.
    absurd (read_none c.args.self.now c.deref.result.now c.args.connection c.place.result c.deref.ensures.value c.place.ensures
    c.in-None.ensures.lookup.3 past h a)

pub returns-in-None-clause-most : goal.returns-in-None-clause-most
returns-in-None-clause-most c = λ past h a.
    absurd (read_none c.args.self.now c.deref.result.now c.args.connection c.place.result c.deref.ensures.value c.place.ensures
    c.in-None.ensures.lookup.3 past h a)
