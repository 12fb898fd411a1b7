use Rattle.std.proofs.Common.{w64}
use Rattle.std.proofs.lemmas.Int.{to_z-of_z}
use Rattle.tree_state.proofs.SessionsEnded.{connection_so, no_connection}
use Rattle.tree_state.proofs.session.Sessions.connection_of.Goals as goal

pub returns-in-Some : goal.returns-in-Some
returns-in-Some c = λ xs owned keeps.
    connection_so c.args.self.now _ c.args.session c.in-Some.live.now xs owned (to_z-of_z w64 c.args.session c.ranges.session) c.in-Some.ensures.value keeps

pub returns-in-None : goal.returns-in-None
returns-in-None c = λ xs owned keeps.
    no_connection c.args.self.now _ c.args.session xs owned (to_z-of_z w64 c.args.session c.ranges.session) c.in-None.ensures.value keeps
