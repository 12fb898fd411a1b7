use Rattle.std.proofs.Common.{length}
use Rattle.std.specs.Option.{option_copied}
use Rattle.replay_cli.specs.Lines.{lines}
use Rattle.replay_cli.specs.HostileScript.{hostile_event_text, MayStandAnywhere, nothing}
use Rattle.replay_cli.specs.Reading.{lines_after}
use Rattle.replay_cli.proofs.ReadingLemmas.{SoFarBy}
use Rattle.replay_cli.proofs.hostile_script.read_hostile_script.Given as goal

abbrev pub invariant-loop-rest : goal.invariant-loop-rest
invariant-loop-rest l = SoFarBy hostile_event_text MayStandAnywhere nothing (lines l.text) l.events.items (lines_after (option_copied l.rest)) l.above

abbrev pub decreases-loop-rest : goal.decreases-loop-rest
decreases-loop-rest l = length (lines_after (option_copied l.rest))
