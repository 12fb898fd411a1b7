use Rattle.std.proofs.Common.{ℕ, bit_xor, ap, ◌∙◌}
use Rattle.aes_block.proofs.Bytes.{triple_at}
use Rattle.aes_block.proofs.field.triple.Goals as goal

pub returns : goal.returns
returns c = ap (λ (n : ℕ). bit_xor n c.args.byte) c.double.ensures ∙ triple_at c.args.byte c.ranges.byte.fits
