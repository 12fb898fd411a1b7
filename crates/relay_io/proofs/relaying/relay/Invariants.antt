use Rattle.std.proofs.Common.{◌≡◌}
use Rattle.std.specs.Prelude.{vec_len}
use Rattle.relay_io.specs.Turns.{SoFar}
use Rattle.relay_io.proofs.relaying.relay.Given as goal

-- so many events were heard as turns are over, and the buffer is as it was made
abbrev pub invariant-loop-turn : goal.invariant-loop-turn
invariant-loop-turn g l =
    SoFar (record { keys = l.fn.keys; boot = l.fn.boot; connection = l.fn.connection }) (g.D.Duo.told l.fn.duo) (g.D.Duo.told l.duo) g.B.Teller.Told l.fn.board l.board l._turn l.course.session
    × (vec_len l.buffer ≡ 65536)
