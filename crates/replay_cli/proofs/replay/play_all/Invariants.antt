use Rattle.std.proofs.Common.{◌≡◌, ℕ, take, true}
use Rattle.payload_seal.specs.declared.keys.EntryKeys.{EntryKeys}
use Rattle.world_core.specs.Moments.{Moment}
use Rattle.world_core.specs.Standing.{Stands}
use Rattle.world_core.specs.Steps.{IsAllDrained}
use Rattle.replay_cli.specs.Worlds.{AllHappen, ends_in_drain}
use Rattle.replay_cli.proofs.replay.play_all.Given as goal

abbrev pub invariant-loop-event : goal.invariant-loop-event
invariant-loop-event g l = (keys : EntryKeys) (m : Moment) → Stands (g.S.StoreSide.stands l.initial.world.store) keys 0 l.initial.world.clients m → m.past.admitted ≡ 0
    → (n : Moment) × AllHappen keys (take l.event-index l.events) m n × Stands (g.S.StoreSide.stands l.world.store) keys 0 l.world.clients n
    × (ends_in_drain (take l.event-index l.events) ≡ true → IsAllDrained n)
