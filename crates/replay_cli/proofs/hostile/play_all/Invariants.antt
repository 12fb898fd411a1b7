use Rattle.std.proofs.Common.{take}
use Rattle.replay_cli.specs.Hostile.{Scene, opening, Plays}
use Rattle.replay_cli.specs.Playing.{IsAt}
use Rattle.replay_cli.proofs.hostile.play_all.Given as goal

abbrev pub invariant-loop-event : goal.invariant-loop-event
invariant-loop-event l = (scene : Scene) × Plays l.fn.keys opening (take l.event-index l.events) scene × IsAt l.fn.keys scene l.play
