use Rattle.std.proofs.Common.{length, arith, ap}
use Rattle.store_side.proofs.Counted.{count_text}
use Rattle.store_side.proofs.sizes.text_length.Goals as goal

pub returns : goal.returns
returns c =
    let utf8 = rw c.as_str.ensures at c.as_str.utf8 in
    count_text _ _ c.requires utf8 (omega (arith, ap length c.as_str.ensures))
