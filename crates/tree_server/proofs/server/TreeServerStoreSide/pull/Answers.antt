use Rattle.tree_server.proofs.WholeFeeds.{stands_pulled}
use Rattle.tree_server.proofs.server.TreeServerStoreSide.pull.Goals as goal

pub returns-clause-left : goal.returns-clause-left
returns-clause-left g c = λ past st admitted.
    stands_pulled _ _ _ _ _ _ _ past st c.args.connection c.in_ok-pull.field-0 admitted (c.in_ok-pull.ensures.left past st.both.lines_are admitted)
