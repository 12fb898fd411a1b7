use Rattle.store_side.specs.Past.{Past}
use Rattle.tree_server.specs.Servers.{ServerStands}
use Rattle.tree_server.proofs.TickCalls.{TicksSoFar}
use Rattle.tree_server.proofs.server.TreeServerStoreSide.tick.Given as goal

abbrev pub invariant-loop-session : goal.invariant-loop-session
invariant-loop-session g l = (past : Past)
    → ServerStands (g.N.Numberer.named l.fn.self.machine.tree.numberer) (g.J.Keeping.keeps l.fn.self.machine.journal) (g.J.Keeping.room l.fn.self.machine.journal) l.fn.self.machine.tree.held l.fn.self.machine.books l.fn.self.lines past
    → TicksSoFar (g.N.Numberer.named l.self.machine.tree.numberer) (g.J.Keeping.keeps l.self.machine.journal) (g.J.Keeping.room l.self.machine.journal) l.self.machine.tree.held l.self.machine.books l.self.lines l.now past l.session-iterator.rest.items
