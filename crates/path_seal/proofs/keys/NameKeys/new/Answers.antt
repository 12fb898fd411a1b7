use Rattle.std.proofs.Common.{rules}
use Rattle.path_seal.proofs.keys.NameKeys.new.Goals as goal

pub invariant_of-result : goal.invariant_of-result
invariant_of-result c = rw c.new.ensures (record { key_bytes = search rules; key_size = search rules; salt_bytes = search rules; salt_size = search rules })
