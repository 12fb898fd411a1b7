use Rattle.std.proofs.Common.{◌∙◌}
use Rattle.tree_server.proofs.machine.Machine.lose.Goals as goal
use Rattle.tree_server.proofs.Ends.{lost_none, lost_one}

pub returns-then-is_none : goal.returns-then-is_none
returns-then-is_none g c past stands =
    lost_none _ _ _ _ _ past c.args.connection _ _ stands c.session_of.ensures c.is_none.ensures c.if-is_none.true

pub returns : goal.returns
returns g c past stands =
    lost_one g.N.Numberer.named _ _ _ _ _ _ _ _ _ _ _ past c.args.connection _ _ _ stands c.session_of.ensures c.is_none.ensures
    c.if-is_none.false
    (c.put.ensures.numberer
    ∙ c.lose.ensures.numberer) c.lose.ensures.step c.put.ensures.held c.saturating_sub-self.ensures c.put.ensures.put c.put.ensures.books
