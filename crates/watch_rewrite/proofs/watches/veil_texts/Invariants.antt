use Rattle.std.proofs.Common.{take}
use Rattle.watch_rewrite.specs.Watches.{SealsTexts}
use Rattle.watch_rewrite.proofs.watches.veil_texts.Given as goal

abbrev pub invariant-loop-text : goal.invariant-loop-text
invariant-loop-text l = SealsTexts l.keys (take l.text-index l.texts) l.veiled.items
