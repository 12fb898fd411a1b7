use Rattle.std.proofs.Common.{ℕ, ◌-◌, ◌≤◌}
use Rattle.sha2.specs.Hashers.{Holds256}
use Rattle.payload_seal.specs.declared.keys.EntryKeys.{EntryKeys}
use Rattle.world_core.specs.Moments.{Moment}
use Rattle.world_core.specs.Standing.{Stands}
use Rattle.replay_cli.specs.Summary.{received_by}
use Rattle.replay_cli.proofs.stress.digest.Given as goal

abbrev pub invariant-loop-number : goal.invariant-loop-number
invariant-loop-number g l = (l.number ≤ l.count) × ((keys : EntryKeys) (m : Moment) → Stands (g.S.StoreSide.stands l.fn.world.store) keys 0 l.fn.world.clients m → Holds256 l.hasher (received_by m l.number))

abbrev pub decreases-loop-number : goal.decreases-loop-number
decreases-loop-number g l = l.count - l.number
