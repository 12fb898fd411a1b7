use Rattle.std.proofs.Common.{◌≡◌, ◌*◌, ◌/◌, ◌<◌, ◌^◌}
use Rattle.aes_block.specs.Polynomial.{product, remainder}
use Rattle.gcm_mode.specs.Ghash.{bits, modulus}
use Rattle.gcm_mode.proofs.table.HashTable.times.Given as goal

abbrev pub invariant-loop-n : goal.invariant-loop-n
invariant-loop-n l = record {
  fits : l.product < 2 ^ 128;
  left : l.left ≡ l.fn.block / 2 ^ (8 * l.n);
  so_far : bits 128 l.product ≡ remainder modulus (product (bits (8 * l.n) l.fn.block) (bits 128 l.self-inside.key));
}
