use Rattle.std.proofs.Common.{take}
use Rattle.std.specs.Prelude.{All}
use Rattle.zk_path.specs.Paths.{IsPathText}
use Rattle.zk_messages.proofs.refusals.all_paths.Given as goal

abbrev pub invariant-loop-text : goal.invariant-loop-text
invariant-loop-text l = All IsPathText (take l.text-index l.texts)
