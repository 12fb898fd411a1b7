use Rattle.std.proofs.Common.{take}
use Rattle.jute_core.specs.Jute.{ustring}
use Rattle.jute_core.specs.Position.{AddsEach}
use Rattle.jute_core.proofs.own.put_items.Given as goal

abbrev pub invariant-loop-text : goal.invariant-loop-text
invariant-loop-text l = AddsEach l.initial.into.items l.into.items ustring (take l.text-index l.texts)
