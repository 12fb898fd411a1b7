use Rattle.std.proofs.Common.{◌≡◌, ◌+◌, [], ◌++◌, length, None}
use Rattle.store_side.specs.Fitting.{frame_limit}
use Rattle.store_side.specs.Follows.{IsAdmitted}
use Rattle.store_side.specs.Past.{Past}
use Rattle.tree_server.specs.Servers.{ServerStands}
use Rattle.tree_server.proofs.Served.{SoFar}
use Rattle.tree_server.proofs.server.TreeServer.take_frames.Given as goal

abbrev pub invariant-loop-count : goal.invariant-loop-count
invariant-loop-count g l = record {
  limit : l.framer.limit ≡ l.fn.framer.limit;
  so_far : l.fn.framer.limit ≡ frame_limit → (past : Past)
      → ServerStands (g.N.Numberer.named l.fn.self.machine.tree.numberer) (g.J.Keeping.keeps l.fn.self.machine.journal) (g.J.Keeping.room l.fn.self.machine.journal) l.fn.self.machine.tree.held l.fn.self.machine.books l.fn.self.lines past
      → IsAdmitted past l.connection → past.endings l.connection ≡ None → past.rests l.connection ≡ []
      → SoFar (g.N.Numberer.named l.self.machine.tree.numberer) (g.J.Keeping.keeps l.self.machine.journal) (g.J.Keeping.room l.self.machine.journal) l.self.machine.tree.held l.self.machine.books l.self.lines
      l.connection l.now past (l.fn.framer.held ++ l.fn.piece) (l.framer.held ++ l.rest);
}

abbrev pub decreases-loop-count : goal.decreases-loop-count
decreases-loop-count g l = length l.framer.held + length l.rest
