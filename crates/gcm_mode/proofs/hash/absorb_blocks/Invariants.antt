use Rattle.std.proofs.Common.{◌≡◌}
use Rattle.gcm_mode.specs.Ghash.{blocks, ghash}
use Rattle.gcm_mode.proofs.hash.absorb_blocks.Given as goal

abbrev pub invariant-loop-n : goal.invariant-loop-n
invariant-loop-n l = l.hash ≡ ghash l.hash_key l.start (blocks l.text l.n)
