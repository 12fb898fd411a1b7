use Rattle.std.proofs.Common.{refl, ◌∙◌, arith}
use Rattle.world_core.proofs.ConnectionLists.{one_kept}
use Rattle.world_core.proofs.clients.Clients.add.Goals as goal

pub returns : goal.returns
returns c = λ k boot m.
    one_kept c.args.self.now _ c.args.number c.new.result k boot m (omega (arith, c.ranges.number.fits)) refl refl c.in_ok-push.ensures.items
    (λ h. c.new.ensures k boot c.args.number (c.session-session.ensures.keys ∙ h.keys) (c.session-session.ensures.boot ∙ h.boot_is) c.session-session.ensures.connection c.session-session.ensures.at)
