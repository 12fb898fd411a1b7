use Rattle.std.proofs.Common.{◌≡◌, ◌-◌, ◌*◌, take, length}
use Rattle.aes_block.specs.Aes.{expanded}
use Rattle.aes_block.proofs.schedule.expand.Given as goal

abbrev pub invariant-loop-i : goal.invariant-loop-i
invariant-loop-i l = record {
  size : length l.words ≡ 176;
  filled : take (4 * l.i) l.words ≡ expanded l.fn.key (l.i - 4);
}
