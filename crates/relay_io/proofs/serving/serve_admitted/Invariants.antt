use Rattle.std.proofs.Common.{◌≡◌}
use Rattle.std.specs.Prelude.{vec_len}
use Rattle.relay_io.specs.Serving.{SoFar}
use Rattle.relay_io.proofs.serving.serve_admitted.Given as goal

-- as many events were served in full as turns are over, and the buffer is as it was made
abbrev pub invariant-loop-turn : goal.invariant-loop-turn
invariant-loop-turn g l =
    SoFar l.hall.table.shared.table_id l.connection l.initial.pass l.pass (g.L.Line.told l.initial.line) (g.L.Line.told l.line) l._turn × (vec_len l.buffer ≡ 65536)
