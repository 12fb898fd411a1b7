use Rattle.std.proofs.Common.{◌≡◌, length}
use Rattle.jute_core.specs.Jute.{ustring}
use Rattle.jute_core.specs.Position.{PassesEach}
use Rattle.jute_core.proofs.own.read_texts.Given as goal

abbrev pub invariant-loop : goal.invariant-loop
invariant-loop l = PassesEach l.initial.ahead l.ahead ustring l.texts.items × (length l.texts.items ≡ l.counter)
