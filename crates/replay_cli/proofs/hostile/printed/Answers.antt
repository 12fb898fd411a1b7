use Rattle.replay_cli.proofs.PlayLemmas.{printed_is}
use Rattle.replay_cli.proofs.hostile.printed.Goals as goal

pub returns : goal.returns
returns c =
    let played = c.in_ok-played.ensures in
    printed_is c.args.keys c.args.events.now played.0 _ _ _ played.1 played.2 c.ending.ensures (rw (← c.as_slice.ensures.value, ← c.as_slice-2.ensures.value, ← c.as_slice-3.ensures.value) c.in_ok-text.ensures)
