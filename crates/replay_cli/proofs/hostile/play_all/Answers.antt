use Rattle.std.proofs.Common.{List, take, sym, subst}
use Rattle.std.proofs.lemmas.List.{take_more}
use Rattle.replay_cli.specs.Hostile.{opening, Plays}
use Rattle.replay_cli.specs.declared.hostile_script.HostileEvent.{HostileEvent}
use Rattle.replay_cli.proofs.PlayLemmas.{plays_more}
use Rattle.replay_cli.proofs.hostile.play_all.Goals as goal

pub loop-event-preserved : goal.loop-event-preserved
loop-event-preserved c =
    let more = take_more c.args.events.now c.loop-event.event-index c.event-item.result c.loop-event-test.true in
    let upto = sym (rw (← c.event-item.is) at more) in
    let so = c.loop-event.invariant in
    let here = c.in_ok-hear.ensures c.args.keys so.0 so.2 in
    let plays = plays_more c.args.keys opening so.0 here.0 (take c.loop-event.event-index c.args.events.now) c.event-item.result so.1 here.1 in
    (here.0, subst (λ (es : List HostileEvent). Plays c.args.keys opening es here.0) upto plays, here.2)
