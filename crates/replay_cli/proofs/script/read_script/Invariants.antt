use Rattle.std.proofs.Common.{length}
use Rattle.std.specs.Option.{option_copied}
use Rattle.replay_cli.specs.Lines.{lines}
use Rattle.replay_cli.specs.Script.{event_text, MayStand, opened_by}
use Rattle.replay_cli.specs.Reading.{lines_after, IsCounted}
use Rattle.replay_cli.proofs.ReadingLemmas.{SoFarBy}
use Rattle.replay_cli.proofs.script.read_script.Given as goal

abbrev pub invariant-loop-rest : goal.invariant-loop-rest
invariant-loop-rest l = IsCounted l.reader × SoFarBy event_text MayStand opened_by (lines l.text) l.reader.events.items (lines_after (option_copied l.rest)) l.above

abbrev pub decreases-loop-rest : goal.decreases-loop-rest
decreases-loop-rest l = length (lines_after (option_copied l.rest))
