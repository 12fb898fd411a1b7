use Rattle.std.proofs.Common.{◌≡◌, length, take}
use Rattle.gcm_mode.specs.HashTable.{entries}
use Rattle.gcm_mode.proofs.table.products.Given as goal

abbrev pub invariant-loop-n : goal.invariant-loop-n
invariant-loop-n l = record {
  size : length l.products ≡ 16;
  filled : take l.n l.products ≡ entries l.count l.n l.block;
}
