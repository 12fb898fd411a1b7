use Rattle.replay_cli.specs.HostileScript.{IsFirstBadHostileLine}
use Rattle.replay_cli.proofs.RunLemmas.{script_stops, may_be}
use Rattle.replay_cli.proofs.hostile.hostile.Goals as goal

pub returns-in-Ok-clause-err : goal.returns-in-Ok-clause-err
returns-in-Ok-clause-err g c = script_stops _ _ _ _ IsFirstBadHostileLine _ _ _ (may_be _ _ c.in-Ok.ensures.ok.0) c.in-Ok.ensures.ok.1 (rw c.as_slice.ensures at c.text_of.ensures.err)
