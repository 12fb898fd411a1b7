use Rattle.std.proofs.Common.{◌≡◌, ◌+◌, List, length, ◌++◌}
use Rattle.zk_messages.specs.Sent.{client_limit}
use Rattle.entry_session.specs.Heard.{Heard}
use Rattle.entry_session.specs.Stands.{Stand}
use Rattle.entry_session.specs.Kept.{IsOfOne}
use Rattle.entry_session.specs.Pieces.{GoesOn, ReachesUp}
use Rattle.entry_session.proofs.session.take_client.Given as goal

abbrev pub invariant-loop-count : goal.invariant-loop-count
invariant-loop-count l = record {
  limit : l.framer.limit ≡ client_limit;
  same : IsOfOne l.initial.progress l.progress;
  reached : (hs : List Heard) (s : Stand) → GoesOn l.initial.progress hs s → ReachesUp l.initial.progress l.progress hs s (l.initial.framer.held ++ l.initial.rest) (l.framer.held ++ l.rest) l.initial.up.items l.up.items;
}

abbrev pub decreases-loop-count : goal.decreases-loop-count
decreases-loop-count l = length l.framer.held + length l.rest
