use Rattle.tree_server.proofs.UpDues.{GoneThrough}
use Rattle.tree_server.proofs.dues.Dues.up.Given as goal

abbrev pub invariant-loop-due : goal.invariant-loop-due
invariant-loop-due l = GoneThrough l.self l.due-iterator l.now l.sessions.items
