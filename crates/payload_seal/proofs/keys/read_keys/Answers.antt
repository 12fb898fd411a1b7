use Rattle.std.proofs.Common.{rules, length, refl, arith}
use Rattle.std.proofs.lemmas.List.{take_rest}
use Rattle.payload_seal.proofs.Files.{file_size, keys_read}
use Rattle.payload_seal.proofs.keys.read_keys.Goals as goal

pub returns-clause-ok : goal.returns-clause-ok
returns-clause-ok c = (λ t. file_size (length c.args.file.now) (omega (arith, c.if-length-lt-FIXED.false)) (omega (arith, c.if-length.false)) (search rules), λ h. refl)

pub returns-clause-payload_keys : goal.returns-clause-payload_keys
returns-clause-payload_keys c n size =
    keys_read c.args.file.now c.bytes_at-3.result _ _ n c.of_all.result c.of_all.ensures c.bytes_at-3.ensures (take_rest c.args.file.now 64) (omega (arith, size))
