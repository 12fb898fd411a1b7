use Rattle.std.proofs.Common.{◌∙◌, ap}
use Rattle.std.specs.Option.{is_some}
use Rattle.tree_server.proofs.WholeFeeds.{loses_one}
use Rattle.tree_server.proofs.server.TreeServerStoreSide.lose.Goals as goal

pub returns-clause-lost : goal.returns-clause-lost
returns-clause-lost g c = λ past st admitted on.
    loses_one _ _ _ _ _ _ _ _ _ _ _ _ c.args.connection past st admitted (c.lose.ensures past st.both.machine) (c.end.ensures.ends past st.both.lines_are admitted on)

pub returns-clause-ended : goal.returns-clause-ended
returns-clause-ended g c = λ past e st admitted over.
    let some = ap is_some (c.ending.ensures past st.both.lines_are admitted ∙ over) in
    let none = c.if-is_some.false in
    let told = c.is_some.ensures in
    absurd cc
