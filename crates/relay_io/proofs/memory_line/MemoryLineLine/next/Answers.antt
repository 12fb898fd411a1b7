use Rattle.std.proofs.Common.{ap, ◌∙◌}
use Rattle.relay_io.specs.MemoryLines.{LineState}
use Rattle.relay_io.proofs.Coming.{line_fails}
use Rattle.relay_io.proofs.memory_line.MemoryLineLine.next.Goals as goal

pub returns-then-fails-clause-counts : goal.returns-then-fails-clause-counts
returns-then-fails-clause-counts c =
    line_fails c.args.self.now c.fails.new.self c.fail.new.self c.fail.result.what c.fail.ensures.what
    (ap (λ (l : LineState). l.faults) c.fails.ensures.counted) c.fail.ensures.risen

pub returns-in-Err-clause-counts : goal.returns-in-Err-clause-counts
returns-in-Err-clause-counts c =
    line_fails c.args.self.now c.count_short.new.self c.fail-in-Err.new.self c.fail-in-Err.result.what c.fail-in-Err.ensures.what
    (ap (λ (l : LineState). l.faults) c.count_short.ensures ∙ ap (λ (l : LineState). l.faults) (c.in-Err.ensures.err ∙ c.fails.ensures.counted))
    c.fail-in-Err.ensures.risen
