use Rattle.std.proofs.Common.{arith}
use Rattle.jute_core.proofs.Glue.{int_then, field_then, int_last}
use Rattle.zk_messages.proofs.MultiLemmas.{header_moves}
use Rattle.zk_messages.proofs.multi.MultiHeader.read.Goals as goal

pub returns-clause-reads : goal.returns-clause-reads
returns-clause-reads c =
    let first = rw c.copy-ahead.ensures at c.in_ok-kind.ensures in
    int_then first (field_then c.in_ok-done.ensures (int_last c.in_ok-err.ensures))

pub returns-clause-moved : goal.returns-clause-moved
returns-clause-moved c =
    let first = rw c.copy-ahead.ensures at c.in_ok-kind.ensures in
    header_moves first c.in_ok-done.ensures c.in_ok-err.ensures

pub returns-clause-fits : goal.returns-clause-fits
returns-clause-fits c =
    let first = rw c.copy-ahead.ensures at c.in_ok-kind.ensures in
    omega (arith, header_moves first c.in_ok-done.ensures c.in_ok-err.ensures, c.place-behind.ensures, c.place-behind.type_inv)
