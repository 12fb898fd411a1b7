use Rattle.std.proofs.Common.{ap, ◌∙◌}
use Rattle.std.specs.Int.{w128, from_be_bytes}
use Rattle.gcm_mode.specs.HashKey.{hash_key}
use Rattle.gcm_mode.proofs.key.GcmKey.new.Goals as goal

pub invariant_of-result : goal.invariant_of-result
unfolding hash_key
invariant_of-result c = c.new-hash.ensures ∙ c.from_be_bytes.ensures ∙ ap (from_be_bytes w128) c.encrypt.ensures
