use Rattle.std.proofs.Common.{take}
use Rattle.relay_io.specs.Relayed.{TellsAll}
use Rattle.relay_io.proofs.relaying.tell_all.Given as goal

abbrev pub invariant-loop-finding : goal.invariant-loop-finding
invariant-loop-finding g l = TellsAll g.B.Teller.Told l.fn.board (take l.finding-index l.findings) l.board
