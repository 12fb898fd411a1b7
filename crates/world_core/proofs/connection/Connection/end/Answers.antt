use Rattle.std.proofs.Common.{refl}
use Rattle.world_core.proofs.ConnectionKeeps.{ends_or_stays}
use Rattle.world_core.proofs.connection.Connection.end.Goals as goal

pub returns : goal.returns
returns c = λ k boot number pulled l h.
    ends_or_stays k boot number pulled c.args.self.now _ c.args.ending l l.stand.ending refl c.end.ensures.ends (λ f is. (c.end.ensures.ended f is).1) c.end.ensures.same
    (record { sent = refl; fed = refl; cut = refl }) refl refl refl h
