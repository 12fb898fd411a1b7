use Rattle.replay_cli.proofs.replay.text_of_events.Goals as goal

pub returns : goal.returns
returns c =
    let world = c.in_ok-world.ensures in
    record { moment = world.0; replayed = world.1; text_is = c.in_ok-text.ensures c.args.keys world.0 world.2 }
