use Rattle.replay_cli.proofs.Happenings.{may_follow}
use Rattle.replay_cli.proofs.replay.text_of.Goals as goal

pub text_of_events-requires : goal.text_of_events-requires
text_of_events-requires c = rw c.as_slice.ensures (may_follow 0 _ c.in-Ok.events c.in-Ok.ensures.ok)
