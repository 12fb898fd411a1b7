use Rattle.std.proofs.Common.{arith}
use Rattle.serve_cli.proofs.Counting.{taking_none, taking_more, used_up}
use Rattle.serve_cli.proofs.proxy.Proxy.relay_all.Goals as goal

pub loop-init : goal.loop-init
loop-init g c = taking_none (g.H.Host.told c.args.host.now)

pub returns-then-count : goal.returns-then-count
returns-then-count g c =
    let t = rw c.in-Ok-true.field-0-test at c.in-Ok-true.ensures.turned in
    record { closed = (_, used_up _ _ _ _ c.loop.invariant t.0 t.1 c.if-count.true) }

pub loop-preserved-else-count : goal.loop-preserved-else-count
loop-preserved-else-count g c =
    let t = rw c.in-Ok-true.field-0-test at c.in-Ok-true.ensures.turned in
    let b = c.loop.invariant.below in
    taking_more _ _ _ _ c.loop.invariant t.0 t.1 (omega (arith, b, c.if-count.false))
