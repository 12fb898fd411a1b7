use Rattle.std.proofs.Common.{◌<◌, ◌^◌, length, take}
use Rattle.std.specs.Prelude.{All}
use Rattle.tree_server.proofs.sending.are_short_texts.Given as goal

abbrev pub invariant-loop-text : goal.invariant-loop-text
invariant-loop-text l = All (λ t. length t < 2 ^ 31) (take l.text-index l.texts)
