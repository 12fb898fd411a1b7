use Rattle.tree_state.proofs.CopiedMaps.{IsCopiedUpTo}
use Rattle.tree_state.proofs.CopiedSessions.{IsSessionCopy}
use Rattle.tree_state.proofs.session.Sessions.copy.Given as goal

abbrev pub invariant-loop-number : goal.invariant-loop-number
invariant-loop-number l = IsCopiedUpTo IsSessionCopy l.live.entries l.number-iterator l.self.live.entries
