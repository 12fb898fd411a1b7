use Rattle.std.proofs.Common.{◌≡◌, ℕ, ◌-◌, ◌≤◌, ◌++◌}
use Rattle.std.specs.Prelude.{string_bytes}
use Rattle.payload_seal.specs.declared.keys.EntryKeys.{EntryKeys}
use Rattle.world_core.specs.Moments.{Moment}
use Rattle.world_core.specs.Standing.{Stands}
use Rattle.replay_cli.specs.Worlds.{links_text}
use Rattle.replay_cli.proofs.replay.push_links.Given as goal

abbrev pub invariant-loop-number : goal.invariant-loop-number
invariant-loop-number g l = (l.number ≤ l.count) × ((keys : EntryKeys) (m : Moment) → Stands (g.S.StoreSide.stands l.fn.world.store) keys 0 l.fn.world.clients m
    → string_bytes l.into ≡ string_bytes l.fn.into ++ links_text m 1 l.number)

abbrev pub decreases-loop-number : goal.decreases-loop-number
decreases-loop-number g l = l.count - l.number
