use Rattle.std.proofs.Common.{◌≡◌, ◌+◌, ℕ, List, length, subst, sym, ap, ◌∙◌, arith}
use Rattle.sha2.specs.Sha256.{sha256}
use Rattle.payload_seal.specs.declared.keys.EntryKeys.{EntryKeys}
use Rattle.replay_cli.specs.Hostile.{IsKeysOf}
use Rattle.replay_cli.specs.Summary.{stress_key}
use Rattle.replay_cli.specs.Worlds.{MayFollow}
use Rattle.replay_cli.specs.declared.script.Event.{Event}
use Rattle.replay_cli.proofs.StressLemmas.{prints}
use Rattle.replay_cli.proofs.WorkloadLemmas.{workload_may, workload_opens}
use Rattle.replay_cli.proofs.stress.stress.Goals as goal

pub replayed-requires : goal.replayed-requires
replayed-requires c =
    subst (λ (es : List Event). MayFollow 0 es) (sym c.as_slice.ensures) (workload_may _ _ _ _ c.requires.some c.requires.few c.in_ok-events.ensures)

pub returns : goal.returns
returns c =
    let world = c.in_ok-world.ensures in
    let keys = c.stress_keys.result in
    prints _ _ _ _ _ keys world.0 _ _ _ _ c.stress_keys.ensures c.requires.some c.requires.few c.in_ok-events.ensures c.as_slice.ensures world.1
    (c.tallied.ensures keys world.0 world.2) (c.digest.ensures keys world.0 world.2) (ap length (c.order-entries.ensures keys 0 world.0 world.2)) c.in_ok-text.ensures
