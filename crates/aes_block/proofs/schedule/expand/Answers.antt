use Rattle.std.proofs.Common.{rules, ◌*◌, arith}
use Rattle.aes_block.proofs.Words.{front_size, kept_size, expanded_more, front_words, all_words}
use Rattle.aes_block.proofs.schedule.expand.Goals as goal

pub loop-i-init : goal.loop-i-init
loop-i-init c = record {
  size = front_size c.copy_from_slice.new.self c.copy_from_slice.ensures.len;
  filled = rw c.copy_from_slice.ensures.after (front_words c.args.key.now _ (search rules));
}

pub loop-i-preserved : goal.loop-i-preserved
loop-i-preserved c = record {
  size = kept_size c.loop-i.words c.copy_from_slice-in-loop-i.new.self (4 * c.loop-i.i) _ c.loop-i.invariant.size (search rules) (omega arith) (omega arith);
  filled = rw c.copy_from_slice-in-loop-i.ensures.after
      (expanded_more c.loop-i.words c.args.key.now _ c.loop-i.i _ (omega arith) (omega arith) c.loop-i.invariant.size c.loop-i.invariant.filled c.next_word-word.ensures);
}

pub returns : goal.returns
returns c = all_words c.loop-i.words c.args.key.now c.loop-i.i c.loop-i.invariant.size (omega arith) c.loop-i.invariant.filled
