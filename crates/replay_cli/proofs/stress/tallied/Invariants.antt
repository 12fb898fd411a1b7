use Rattle.std.proofs.Common.{ℕ, ◌-◌, ◌≤◌}
use Rattle.payload_seal.specs.declared.keys.EntryKeys.{EntryKeys}
use Rattle.world_core.specs.Moments.{Moment}
use Rattle.world_core.specs.Standing.{Stands}
use Rattle.replay_cli.specs.Summary.{AreTallied}
use Rattle.replay_cli.proofs.stress.tallied.Given as goal

abbrev pub invariant-loop-number : goal.invariant-loop-number
invariant-loop-number g l = (l.number ≤ l.count) × ((keys : EntryKeys) (m : Moment) → Stands (g.S.StoreSide.stands l.fn.world.store) keys 0 l.fn.world.clients m → AreTallied m l.number l.tally)

abbrev pub decreases-loop-number : goal.decreases-loop-number
decreases-loop-number g l = l.count - l.number
