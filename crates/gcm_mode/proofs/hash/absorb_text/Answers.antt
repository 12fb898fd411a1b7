use Rattle.std.proofs.Common.{ap, ◌∙◌, rules}
use Rattle.std.specs.Int.{w128, from_be_bytes}
use Rattle.gcm_mode.proofs.Absorbing.{ends_open}
use Rattle.gcm_mode.proofs.hash.absorb_text.Goals as goal

pub returns-else-is_multiple_of : goal.returns-else-is_multiple_of
returns-else-is_multiple_of c =
    ends_open c.args.hash_key.now c.args.start c.absorb_blocks-hash.result c.from_be_bytes.result c.times.result c.args.text.now (search rules) c.absorb_blocks-hash.ensures
    (c.from_be_bytes.ensures ∙ ap (from_be_bytes w128) c.padded_block-last.ensures) c.times.ensures
