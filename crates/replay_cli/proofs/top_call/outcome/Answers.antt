use Rattle.replay_cli.proofs.RunLemmas.{replay_stops, session_stops}
use Rattle.replay_cli.proofs.top_call.outcome.Goals as goal

pub returns-in-Some-Replay-clause-err : goal.returns-in-Some-Replay-clause-err
returns-in-Some-Replay-clause-err g c =
    let found = rw c.in-Some-Replay.field-0-is at c.in-Some-Replay.ensures.found in
    replay_stops _ _ _ _ (g.F.Files.told c.args.files.now) _ _ _ found.0 found.1 found.2 c.replay.ensures.err

pub returns-in-Some-Hostile-clause-err : goal.returns-in-Some-Hostile-clause-err
returns-in-Some-Hostile-clause-err g c =
    let found = rw c.in-Some-Hostile.field-0-is at c.in-Some-Hostile.ensures.found in
    session_stops _ _ _ _ (g.F.Files.told c.args.files.now) _ _ _ found.0 found.1 found.2 c.hostile.ensures.err
