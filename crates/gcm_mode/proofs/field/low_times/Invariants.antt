use Rattle.std.proofs.Common.{◌≡◌, ◌<◌, ◌^◌}
use Rattle.aes_block.specs.Polynomial.{product, remainder}
use Rattle.gcm_mode.specs.Ghash.{bits, modulus}
use Rattle.gcm_mode.proofs.field.low_times.Given as goal

abbrev pub invariant-loop-i : goal.invariant-loop-i
invariant-loop-i l = record {
  fits : l.product < 2 ^ 128;
  so_far : bits 128 l.product ≡ remainder modulus (product (bits l.i l.first) (bits 128 l.second));
}
