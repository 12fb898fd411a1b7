use Rattle.std.proofs.Common.{refl}
use Rattle.sealed_machine.proofs.SealedNaming.{has_sealed_naming}
use Rattle.tree_server.specs.Machines.{fresh}
use Rattle.replay_cli.proofs.replay.new_world.Goals as goal

pub returns : goal.returns
returns c =
    let keys = c.are_keys.ensures in
    let named = has_sealed_naming c.args.keys.names keys in
    let first = fresh named.0 c.new.result 1000000 in
    let stands = c.in_ok-store.ensures named.0 (rw c.new-enclave.ensures named.1) in (
      first,
      record { new = record { admitted = refl; order = refl; acts = refl }; sound = stands.sound; names = named.1; key = c.new.ensures; limit = refl },
      c.new-3.ensures first stands (record { admitted = refl; order = refl; acts = refl }) stands.sound named.1,
    )
