use Rattle.std.proofs.Common.{subst}
use Rattle.std.specs.Int.{w64}
use Rattle.std.proofs.lemmas.Int.{to_z-of_z}
use Rattle.replay_cli.specs.Worlds.{MayHappen}
use Rattle.replay_cli.specs.declared.script.Event.{Event}
use Rattle.replay_cli.proofs.Happenings.{fits_time}
use Rattle.replay_cli.proofs.Playing.{as_event, open_plays, send_plays, up_plays, down_plays, cut_plays, time_plays, tick_plays, drain_plays}
use Rattle.replay_cli.proofs.replay.play.Goals as goal

pub returns-in_ok-add-in-Open : goal.returns-in_ok-add-in-Open
returns-in_ok-add-in-Open g c = as_event _ _ _ _ _ _ c.in-Open.is (open_plays _ _ _ _ _ c.in_ok-add-in-Open.ensures.number)

pub returns-in_ok-send-in-Send : goal.returns-in_ok-send-in-Send
returns-in_ok-send-in-Send g c = as_event _ _ _ _ _ _ c.in-Send.is (send_plays _ _ _ _ _ _ (rw c.as_slice.ensures at c.in_ok-send-in-Send.ensures))

pub returns-in_ok-up-in-Up : goal.returns-in_ok-up-in-Up
returns-in_ok-up-in-Up g c = as_event _ _ _ _ _ _ c.in-Up.is (up_plays _ _ _ _ _ _ _ c.in_ok-up-in-Up.ensures)

pub returns-in_ok-down-in-Down : goal.returns-in_ok-down-in-Down
returns-in_ok-down-in-Down g c = as_event _ _ _ _ _ _ c.in-Down.is (down_plays _ _ _ _ _ _ c.in_ok-down-in-Down.ensures)

pub returns-in-Cut : goal.returns-in-Cut
returns-in-Cut g c = as_event _ _ _ _ _ _ c.in-Cut.is (cut_plays _ _ _ _ _ c.cut.ensures)

pub returns-in-Time : goal.returns-in-Time
returns-in-Time g c =
    let may = subst (λ (e : Event). MayHappen c.requires.0 e) c.in-Time.is c.requires.1 in
    let same = to_z-of_z w64 c.in-Time.now (fits_time c.requires.0 c.in-Time.now may) in
    as_event _ _ _ _ _ _ c.in-Time.is (time_plays _ _ _ _ _ (rw same at c.time.ensures))

pub returns-in_ok-tick-in-Tick : goal.returns-in_ok-tick-in-Tick
returns-in_ok-tick-in-Tick g c = as_event _ _ _ _ _ _ c.in-Tick.is (tick_plays _ _ _ _ c.in_ok-tick-in-Tick.ensures)

pub returns-in_ok-drain-in-Drain : goal.returns-in_ok-drain-in-Drain
returns-in_ok-drain-in-Drain g c = as_event _ _ _ _ _ _ c.in-Drain.is (drain_plays _ _ _ _ c.in_ok-drain-in-Drain.ensures)
