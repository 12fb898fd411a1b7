use Rattle.std.proofs.Common.{length}
use Rattle.std.specs.Prelude.{string_bytes}
use Rattle.replay_cli.proofs.ShowLemmas.{SameShow}
use Rattle.replay_cli.proofs.show.show_frames.Given as goal

abbrev pub invariant-loop-text : goal.invariant-loop-text
invariant-loop-text l = SameShow l.bytes l.number l.left (string_bytes l.text)

abbrev pub decreases-loop-text : goal.decreases-loop-text
decreases-loop-text l = length l.left
