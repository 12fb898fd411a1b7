use Rattle.std.proofs.Common.{rules, ◌≡◌, List, ℕ, Result, Err, sym, subst}
use Rattle.jute_core.specs.Faults.{HasCause, Takes}
use Rattle.entry_session.specs.Runs.{IsGivenEnding}
use Rattle.entry_session.specs.declared.ending.Ending.{Ending}
use Rattle.relay_io.specs.Turns.{WentUp, StopsUp}
use Rattle.relay_io.proofs.Passing.{ending_of_ok}
use Rattle.relay_io.proofs.Pieces.{CallsClient, up_goes_on, up_fails, up_stops}
use Rattle.relay_io.proofs.relaying.Course.pass_up.Goals as goal

pub returns-in_err-taken-clause-went : goal.returns-in_err-taken-clause-went
returns-in_err-taken-clause-went g c = λ line scene at none.
    let call : CallsClient c.args.self.now.session c.from_client-taken.new.self c.args.piece.now c.from_client-taken.new.up.items c.from_client-taken.result = record {
      answered = c.from_client-taken.ensures.answer;
      takes = rw (c.clear.ensures.items) at c.from_client-taken.ensures.takes;
      wants = rw (c.clear.ensures.items) at c.from_client-taken.ensures.wants;
      same = c.from_client-taken.ensures.same;
    } in
    let same : c.from_residual.result ≡ Err c.in_err-taken.field-0.0 = search rules in
    rw same (up_stops line scene _ _ _ _ _ _ _ _ _ call c.in_err-taken.was (rw c.as_slice.ensures.value at c.write_up-written.ensures.bytes) c.write_up-written.ensures.cause at none)

pub end-requires : goal.end-requires
unfolding IsGivenEnding
end-requires g c = tt

pub returns-in-Ok-clause-went : goal.returns-in-Ok-clause-went
returns-in-Ok-clause-went g c = λ line scene at none.
    let call : CallsClient c.args.self.now.session c.from_client-taken.new.self c.args.piece.now c.from_client-taken.new.up.items c.from_client-taken.result = record {
      answered = c.from_client-taken.ensures.answer;
      takes = rw (c.clear.ensures.items) at c.from_client-taken.ensures.takes;
      wants = rw (c.clear.ensures.items) at c.from_client-taken.ensures.wants;
      same = c.from_client-taken.ensures.same;
    } in
    up_goes_on line scene _ _ _ _ _ _ _ _ _ call c.in_ok-taken.was (rw c.as_slice.ensures.value at c.write_up-written.ensures.bytes) c.in-Ok.is at none

pub returns-in-Err-clause-went : goal.returns-in-Err-clause-went
returns-in-Err-clause-went g c = λ line scene at none.
    let call : CallsClient c.args.self.now.session c.from_client-taken.new.self c.args.piece.now c.from_client-taken.new.up.items c.from_client-taken.result = record {
      answered = c.from_client-taken.ensures.answer;
      takes = rw (c.clear.ensures.items) at c.from_client-taken.ensures.takes;
      wants = rw (c.clear.ensures.items) at c.from_client-taken.ensures.wants;
      same = c.from_client-taken.ensures.same;
    } in
    let by = (c.end.ensures.first (ending_of_ok _ _ c.from_client-taken.ensures.answer c.in_ok-taken.was)).0 in
    rw by (up_fails line scene _ _ _ _ _ _ _ _ _ call c.in_ok-taken.was (rw c.as_slice.ensures.value at c.write_up-written.ensures.bytes) c.write_up-written.ensures.cause c.in-Err.is at none)
