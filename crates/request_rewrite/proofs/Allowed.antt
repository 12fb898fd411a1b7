-- What holds of a request that is not refused.
use Rattle.std.proofs.Common.{None}
use Rattle.zk_path.specs.Paths.{IsPathText}
use Rattle.watch_rewrite.specs.Watches.{EachText}
use Rattle.zk_records.specs.declared.set_watches.SetWatches.{SetWatches}
use Rattle.zk_messages.specs.Refuses.{RefusesWatches}
use Rattle.zk_messages.specs.Short.{IsShort, AreShort}
use Rattle.zk_messages.proofs.Allowed.{path_allowed, node_allowed, create_named, create_open, acl_path, acl_open, watches_allowed, ops_allowed}

pub watches_legal : (r : SetWatches) → RefusesWatches r None → EachText IsPathText r
watches_legal r h =
    let lists = watches_allowed r h in
    record { content = lists.0; exist = lists.1; child = lists.2 }

-- so is each list of short ones
pub watches_short : (r : SetWatches) → AreShort r.content_paths × AreShort r.exist_paths × AreShort r.child_paths → EachText IsShort r
watches_short r h = record { content = h.0; exist = h.1; child = h.2 }

pub ruleset allowed = (path_allowed, node_allowed, create_named, create_open, acl_path, acl_open, watches_legal, watches_short, ops_allowed)
