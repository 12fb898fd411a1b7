use Rattle.std.proofs.Common.{refl}
use Rattle.world_core.proofs.ConnectionKeeps.{hears_store}
use Rattle.world_core.proofs.connection.Connection.hear_store.Goals as goal

pub returns : goal.returns
returns c = hears_store c.answered.result _ c.args.self.now _ _ c.from_store.ensures.answer c.from_store.ensures.takes c.from_store.ensures.same
    (record { sent = refl; fed = refl; cut = refl }) refl refl c.answered.ensures
