use Rattle.std.proofs.Common.{rules, ◌≡◌, List, ℕ, Result, Err, sym, subst}
use Rattle.entry_session.specs.Runs.{IsGivenEnding}
use Rattle.relay_io.specs.Turns.{WentDown, StopsDown}
use Rattle.relay_io.proofs.Passing.{ending_of_ok}
use Rattle.relay_io.proofs.Pieces.{CallsStore, down_goes_on, down_fails, down_stops}
use Rattle.relay_io.proofs.relaying.Course.pass_down.Goals as goal

pub returns-in_err-taken-clause-went : goal.returns-in_err-taken-clause-went
returns-in_err-taken-clause-went g c = λ line scene at none.
    let call : CallsStore c.args.self.now.session c.from_store-taken.new.self c.args.piece.now c.from_store-taken.new.down.items c.from_store-taken.new.findings.items c.from_store-taken.result = record {
      answered = c.from_store-taken.ensures.answer;
      takes = rw (c.clear.ensures.items, c.clear-2.ensures.items) at c.from_store-taken.ensures.takes;
      wants = rw (c.clear.ensures.items, c.clear-2.ensures.items) at c.from_store-taken.ensures.wants;
      same = c.from_store-taken.ensures.same;
    } in
    let same : c.from_residual.result ≡ Err c.in_err-taken.field-0.0 = search rules in
    rw same (down_stops g.B.Teller.Told _ _ line scene _ _ _ _ _ _ _ _ _ _ call c.in_err-taken.was (rw c.as_slice.ensures.value at c.write_down-written.ensures.bytes) c.write_down-written.ensures.cause
    (rw c.as_slice-2.ensures.value at c.tell_all.ensures) at none)

pub end-requires : goal.end-requires
unfolding IsGivenEnding
end-requires g c = tt

pub returns-in-Ok-clause-went : goal.returns-in-Ok-clause-went
returns-in-Ok-clause-went g c = λ line scene at none.
    let call : CallsStore c.args.self.now.session c.from_store-taken.new.self c.args.piece.now c.from_store-taken.new.down.items c.from_store-taken.new.findings.items c.from_store-taken.result = record {
      answered = c.from_store-taken.ensures.answer;
      takes = rw (c.clear.ensures.items, c.clear-2.ensures.items) at c.from_store-taken.ensures.takes;
      wants = rw (c.clear.ensures.items, c.clear-2.ensures.items) at c.from_store-taken.ensures.wants;
      same = c.from_store-taken.ensures.same;
    } in
    down_goes_on g.B.Teller.Told _ _ line scene _ _ _ _ _ _ _ _ _ _ call c.in_ok-taken.was (rw c.as_slice.ensures.value at c.write_down-written.ensures.bytes) c.in-Ok.is
    (rw c.as_slice-2.ensures.value at c.tell_all.ensures) at none

pub returns-in-Err-clause-went : goal.returns-in-Err-clause-went
returns-in-Err-clause-went g c = λ line scene at none.
    let call : CallsStore c.args.self.now.session c.from_store-taken.new.self c.args.piece.now c.from_store-taken.new.down.items c.from_store-taken.new.findings.items c.from_store-taken.result = record {
      answered = c.from_store-taken.ensures.answer;
      takes = rw (c.clear.ensures.items, c.clear-2.ensures.items) at c.from_store-taken.ensures.takes;
      wants = rw (c.clear.ensures.items, c.clear-2.ensures.items) at c.from_store-taken.ensures.wants;
      same = c.from_store-taken.ensures.same;
    } in
    let by = (c.end.ensures.first (ending_of_ok _ _ c.from_store-taken.ensures.answer c.in_ok-taken.was)).0 in
    rw by (down_fails g.B.Teller.Told _ _ line scene _ _ _ _ _ _ _ _ _ _ call c.in_ok-taken.was (rw c.as_slice.ensures.value at c.write_down-written.ensures.bytes) c.write_down-written.ensures.cause c.in-Err.is
    (rw c.as_slice-2.ensures.value at c.tell_all.ensures) at none)
