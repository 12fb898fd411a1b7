use Rattle.std.proofs.Common.{w64}
use Rattle.std.proofs.lemmas.Int.{to_z-of_z}
use Rattle.tree_state.proofs.SessionsEnded.{ended, ended_on, ended_off, ended_paths, nothing_ends}
use Rattle.tree_state.proofs.SessionsKept.{must_be_found}
use Rattle.tree_state.proofs.session.Sessions.end.Goals as goal

pub returns-in_default-clause-kept : goal.returns-in_default-clause-kept
returns-in_default-clause-kept c = λ xs owned keeps.
    nothing_ends c.args.self.now c.remove.new.self _ c.args.session xs owned (to_z-of_z w64 c.args.session c.ranges.session) c.in_default.ensures.value c.in_default.ensures.unchanged keeps

pub returns-in_default-clause-paths : goal.returns-in_default-clause-paths
returns-in_default-clause-paths c = λ xs owned x keeps live.
    absurd (must_be_found c.args.self.now _ c.args.session x xs owned (to_z-of_z w64 c.args.session c.ranges.session) c.in_default.ensures.value keeps live)

pub returns-in-Some-connection-clause-kept : goal.returns-in-Some-connection-clause-kept
returns-in-Some-connection-clause-kept c = λ xs owned keeps.
    ended c.args.self.now c.remove.new.self c.remove-in-Some-connection.new.self _ c.args.session c.in-Some.live xs owned (to_z-of_z w64 c.args.session c.ranges.session)
    c.in-Some.ensures.value c.in-Some.ensures.entries c.in-Some.ensures.updates.1 c.in-Some.ensures.ordered
    (ended_on c.args.self.now c.remove-in-Some-connection.new.self c.in-Some-connection.connection c.in-Some.live xs owned c.in-Some-connection.is c.remove-in-Some-connection.ensures.updates keeps) keeps

pub returns-in-Some-connection-clause-paths : goal.returns-in-Some-connection-clause-paths
returns-in-Some-connection-clause-paths c = λ xs owned x keeps live.
    ended_paths c.args.self.now _ c.args.session c.in-Some.live xs owned (to_z-of_z w64 c.args.session c.ranges.session) c.in-Some.ensures.value keeps

pub returns-in_default-connection-clause-kept : goal.returns-in_default-connection-clause-kept
returns-in_default-connection-clause-kept c = λ xs owned keeps.
    ended c.args.self.now c.remove.new.self c.args.self.now.connections _ c.args.session c.in-Some.live xs owned (to_z-of_z w64 c.args.session c.ranges.session)
    c.in-Some.ensures.value c.in-Some.ensures.entries c.in-Some.ensures.updates.1 c.in-Some.ensures.ordered
    (ended_off c.args.self.now c.in-Some.live xs owned c.in_default-connection.is keeps) keeps

pub returns-in_default-connection-clause-paths : goal.returns-in_default-connection-clause-paths
returns-in_default-connection-clause-paths c = λ xs owned x keeps live.
    ended_paths c.args.self.now _ c.args.session c.in-Some.live xs owned (to_z-of_z w64 c.args.session c.ranges.session) c.in-Some.ensures.value keeps
