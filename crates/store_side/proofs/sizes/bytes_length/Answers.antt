use Rattle.std.proofs.Common.{arith}
use Rattle.store_side.proofs.Counted.{count_bytes, count_no_bytes}
use Rattle.store_side.proofs.sizes.bytes_length.Goals as goal

pub returns-in-Some : goal.returns-in-Some
returns-in-Some c =
    let small = rw c.in-Some.is at c.requires in
    rw c.in-Some.is (count_bytes _ _ small (omega (arith, c.len.ensures, c.saturating_add.ensures)))

pub returns-in-None : goal.returns-in-None
returns-in-None c = rw c.in-None.is count_no_bytes
