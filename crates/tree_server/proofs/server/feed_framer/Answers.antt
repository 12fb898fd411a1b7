use Rattle.tree_server.proofs.Cutting.{fed_limit, fed_open}
use Rattle.tree_server.proofs.server.feed_framer.Goals as goal

pub returns-clause-open : goal.returns-clause-open
returns-clause-open c = fed_open _ _ c.args.framer.now c.args.piece.now c.map_err.ensures.variant c.feed.ensures.too_long

pub returns-clause-limit : goal.returns-clause-limit
returns-clause-limit c = fed_limit _ _ _ _ c.feed.ensures.taken c.feed.ensures.prefix c.feed.ensures.memory
