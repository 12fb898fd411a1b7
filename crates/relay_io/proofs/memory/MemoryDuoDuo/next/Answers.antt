use Rattle.std.proofs.Common.{ap, ◌∙◌}
use Rattle.relay_io.specs.MemoryDuos.{DuoState}
use Rattle.relay_io.proofs.Failing.{counts_fail}
use Rattle.relay_io.proofs.memory.MemoryDuoDuo.next.Goals as goal

pub returns-then-fails-clause-counts : goal.returns-then-fails-clause-counts
returns-then-fails-clause-counts c =
    let e = c.fail.ensures in
    counts_fail c.args.self.now c.fails.new.self c.fail.new.self c.fail.result e.fails (ap (λ (d : DuoState). d.client_faults) c.fails.ensures.counted) (ap (λ (d : DuoState). d.store_faults) c.fails.ensures.counted) e.client_later e.store_later

pub returns-in-Err-clause-counts : goal.returns-in-Err-clause-counts
returns-in-Err-clause-counts c =
    let e = c.fail-in-Err.ensures in
    let before = c.in-Err.ensures.err ∙ c.fails.ensures.counted in
    counts_fail c.args.self.now c.count_short.new.self c.fail-in-Err.new.self c.fail-in-Err.result e.fails
    (ap (λ (d : DuoState). d.client_faults) c.count_short.ensures ∙ ap (λ (d : DuoState). d.client_faults) before)
    (ap (λ (d : DuoState). d.store_faults) c.count_short.ensures ∙ ap (λ (d : DuoState). d.store_faults) before) e.client_later e.store_later
