use Rattle.std.proofs.Common.{◌≡◌, ◌<◌, ℕ, length, take, slice_index}
use Rattle.std.specs.Int.{to_be_bytes, w32}
use Rattle.aes_block.specs.Columns.{word_bytes, words_of}
use Rattle.aes_block.proofs.schedule.words.Given as goal

abbrev pub invariant-loop-i : goal.invariant-loop-i
invariant-loop-i l = record {
  size : length l.words ≡ 44;
  filled : take l.i l.words ≡ words_of l.bytes l.i;
  back : (j : ℕ) → j < l.i → to_be_bytes w32 (slice_index l.words j) ≡ word_bytes l.bytes j;
}
