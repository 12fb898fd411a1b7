use Rattle.std.proofs.Common.{arith, ◌∙◌}
use Rattle.entry_session.specs.Runs.{IsGivenEnding}
use Rattle.relay_io.proofs.Turning.{at_start, no_buffer, all_heard}
use Rattle.relay_io.proofs.relaying.relay.Goals as goal

pub returns-in_default : goal.returns-in_default
returns-in_default g c = record { relayed = no_buffer _ c.args.turns (g.D.Duo.told c.args.duo.now) g.B.Teller.Told c.args.board.now }

pub loop-turn-init : goal.loop-turn-init
loop-turn-init g c = (at_start _ (g.D.Duo.told c.args.duo.now) g.B.Teller.Told c.args.board.now _ c.new-course.ensures, c.in-Ok.ensures)

pub loop-turn-preserved : goal.loop-turn-preserved
loop-turn-preserved g c =
    (c.in_default-turn.ensures _ c.args.turns _ _ _ c.loop-turn-test.true c.loop-turn.invariant.0, c.loop-turn.invariant.1)

pub returns-in-Err : goal.returns-in-Err
returns-in-Err g c = record { relayed = c.in-Err.ensures _ c.args.turns _ _ _ c.loop-turn-test.true c.loop-turn.invariant.0 }

pub end-requires : goal.end-requires
unfolding IsGivenEnding
end-requires g c = tt

pub returns : goal.returns
returns g c =
    let s = c.loop-turn.invariant.0 in
    let by = (c.end.ensures.first (s.at.at.ending ∙ s.goes_on)).0 in
    record { relayed = rw by (all_heard _ c.args.turns _ _ _ g.B.Teller.Told _ _ _ (omega arith) s) }
