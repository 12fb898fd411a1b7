use Rattle.std.proofs.Common.{ℕ, ◌-◌}
use Rattle.payload_seal.specs.declared.keys.EntryKeys.{EntryKeys}
use Rattle.world_core.specs.Moments.{Moment}
use Rattle.world_core.specs.Standing.{Stands}
use Rattle.world_core.specs.Steps.{Up}
use Rattle.world_core.specs.declared.amount.Amount.{Amount as PlainAmount}
use Rattle.world_core.proofs.KeptCalls.{GoneThrough}
use Rattle.world_core.proofs.world.World.drain_up.Given as goal

abbrev pub invariant-loop-connection : goal.invariant-loop-connection
invariant-loop-connection g l = (k : EntryKeys) (boot : ℕ) (m : Moment) → Stands (g.S.StoreSide.stands l.fn.self.store) k boot l.fn.self.clients m
    → GoneThrough (λ c. Up k boot c PlainAmount.All PlainAmount.All) (g.S.StoreSide.stands l.self.store) k boot l.self.clients l.count l.connection m

abbrev pub decreases-loop-connection : goal.decreases-loop-connection
decreases-loop-connection g l = l.count - l.connection
