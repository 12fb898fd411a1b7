use Rattle.std.proofs.Common.{◌∷◌}
use Rattle.payload_seal.specs.Keys.{keys_in}
use Rattle.payload_seal.proofs.Places.{Fills}
use Rattle.payload_seal.proofs.keys.PayloadKeys.of_all.Given as goal

abbrev pub invariant-loop-n : goal.invariant-loop-n
invariant-loop-n l = Fills l.places l.n (l.fn.first ∷ keys_in l.later l.n)
