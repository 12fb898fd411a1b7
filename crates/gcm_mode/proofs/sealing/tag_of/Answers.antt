use Rattle.gcm_mode.proofs.Absorbing.{tag_from}
use Rattle.gcm_mode.proofs.sealing.tag_of.Goals as goal

pub returns : goal.returns
returns c = λ aad held.
    tag_from c.args.key.now c.args.iv.now aad c.args.text.now _ _ _ _ c.xor.result c.args.absorbed.now _ _ _ _ _
    held c.hash_key-hash_key.ensures (c.hash.ensures aad held) c.absorb_text-hash.ensures c.lengths_block-lengths.ensures c.times-whole.ensures
    c.to_be_bytes.ensures c.counter_block.ensures c.cipher.ensures c.encrypt.ensures c.xor.ensures
