use Rattle.std.proofs.Common.{◌+◌, ◌≡◌, List, take, sym, subst, true}
use Rattle.replay_cli.specs.Worlds.{AllHappen, ends_in_drain}
use Rattle.replay_cli.specs.Script.{opened}
use Rattle.replay_cli.specs.declared.script.Event.{Event}
use Rattle.replay_cli.proofs.Happenings.{drained_last, may_at, may_here, more_happen, none_drained, none_happen, upto}
use Rattle.replay_cli.proofs.replay.play_all.Goals as goal

pub play-requires : goal.play-requires
play-requires g c =
    (0 + opened (take c.loop-event.event-index c.args.events.now), may_at c.args.events.now c.loop-event.event-index c.event-item.result c.loop-event-test.true c.event-item.is c.requires)

pub loop-event-init : goal.loop-event-init
loop-event-init g c = λ keys m stands zero. (m, none_happen keys m, stands, none_drained m)

pub loop-event-preserved : goal.loop-event-preserved
loop-event-preserved g c = λ keys m stands zero.
    let events = c.args.events.now in
    let i = c.loop-event.event-index in
    let item = c.event-item.result in
    let so = c.loop-event.invariant keys m stands zero in
    let more = upto events i item c.loop-event-test.true c.event-item.is in
    let may = may_here keys (take i events) item m so.0 zero so.1 (may_at events i item c.loop-event-test.true c.event-item.is c.requires) in
    let here = c.in_ok-play.ensures keys so.0 so.2 may in (
      here.0,
      subst (λ (es : List Event). AllHappen keys es m here.0) (sym more) (more_happen keys (take i events) item m so.0 here.0 so.1 here.1),
      here.2,
      λ is. drained_last keys (take i events) item so.0 here.0 so.2.sound here.1 (subst (λ (es : List Event). ends_in_drain es ≡ true) more is),
    )
