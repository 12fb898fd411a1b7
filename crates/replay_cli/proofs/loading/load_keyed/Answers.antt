use Rattle.std.proofs.Common.{refl, subst}
use Rattle.replay_cli.specs.Told.{Told}
use Rattle.replay_cli.specs.Run.{MayHold}
use Rattle.replay_cli.proofs.LoadLemmas.{key_is}
use Rattle.replay_cli.proofs.loading.load_keyed.Goals as goal

pub returns-clause-ok : goal.returns-clause-ok
returns-clause-ok g c =
    let read = c.in-Ok-read_keys.ensures in (
      key_is _ _ _ _ c.in-Ok.ensures.ok c.as_slice.ensures (read.ok.0 refl) read.name_key read.salt read.payload_keys,
      subst (λ (t : Told). MayHold t c.in-Ok-load.bytes) (c.load.ensures.same c.args.script.now) c.in-Ok-load.ensures.ok,
    )
