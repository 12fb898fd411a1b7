use Rattle.std.proofs.Common.{◌∙◌, refl, arith}
use Rattle.world_core.specs.Moments.{opening}
use Rattle.world_core.proofs.Complete.{has_all_once_drained}
use Rattle.world_core.proofs.Holding.{holds_at_each}
use Rattle.replay_cli.proofs.Admitting.{all_admit, all_key}
use Rattle.replay_cli.proofs.Given.{all_given}
use Rattle.replay_cli.proofs.replay.replayed.Goals as goal

pub returns : goal.returns
returns c =
    let world = c.in_ok-world.ensures in
    let keys = c.args.keys in
    let events = c.args.events.now in
    let first = opening world.0 in
    let played = c.in_ok-play_all.ensures keys first world.2 world.1.new.admitted in
    let m = played.0 in
    let holds = holds_at_each keys 0 m played.2.sound in
    let count = all_admit keys events first m played.1 in (
      m,
      record {
        first = world.0;
        is_first = world.1;
        happen = played.1;
        sound = played.2.sound;
        key = all_key keys events first m played.1 ∙ world.1.key;
        admitted = omega (arith, count, world.1.new.admitted);
        given = λ x. all_given keys x events first m refl played.1;
        holds = holds;
        drained = played.3;
        complete = λ ends x going. has_all_once_drained keys 0 m holds (played.3 ends) x going;
      },
      played.2,
    )
