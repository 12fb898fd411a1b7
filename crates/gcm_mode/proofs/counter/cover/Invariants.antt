use Rattle.std.proofs.Common.{◌≡◌, ◌*◌, ◌++◌, drop}
use Rattle.gcm_mode.specs.Gcm.{gctr_blocks, inc32, first_counter}
use Rattle.gcm_mode.proofs.counter.cover.Given as goal

abbrev pub invariant-loop-n : goal.invariant-loop-n
invariant-loop-n l = l.text ≡ gctr_blocks l.key (inc32 (first_counter l.iv)) l.initial.text l.n ++ drop (16 * l.n) l.initial.text
