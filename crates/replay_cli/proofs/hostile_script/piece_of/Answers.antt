use Rattle.std.proofs.Common.{List, ℕ}
use Rattle.replay_cli.specs.HostileScript.{IsLineOf}
use Rattle.replay_cli.specs.Reading.{IsHex}
use Rattle.replay_cli.proofs.EventLemmas.{one_behind, none_within}
use Rattle.replay_cli.proofs.hostile_script.piece_of.Goals as goal

pub returns-in-Some-clause-none : goal.returns-in-Some-clause-none
returns-in-Some-clause-none c =
    let behind : ((bytes : List ℕ) → IsHex c.in-Some.digits.now bytes → ⊥) → (bytes : List ℕ) → IsLineOf c.args.word.now c.args.line.now bytes → ⊥ = λ never bytes is.
    never bytes (one_behind _ _ _ _ c.in-Some.ensures.found is.0, is.1) in
    none_within _ _ _ behind c.hex_bytes.ensures.none
