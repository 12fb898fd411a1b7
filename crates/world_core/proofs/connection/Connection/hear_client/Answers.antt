use Rattle.std.proofs.Common.{refl, ◌∙◌, sym, arith}
use Rattle.world_core.proofs.ConnectionKeeps.{hears_nothing, hears_client, not_wanting}
use Rattle.world_core.proofs.connection.Connection.hear_client.Goals as goal

pub returns-then-is_some : goal.returns-then-is_some
returns-then-is_some c = λ k boot number pulled l h.
    hears_nothing k boot number c.args.amount pulled c.args.self.now l c.ending.result c.ending.ensures (sym c.is_some.ensures ∙ c.if-is_some.true) h

pub returns : goal.returns
returns c = λ k boot number pulled l h.
    hears_client k boot number c.args.amount pulled c.args.self.now _ l c.as_slice.result.now c.behind.result.now _ _ c.len.result c.ending.result
    c.ending.ensures (sym c.is_some.ensures ∙ c.if-is_some.false) c.as_slice.ensures.value c.behind.ensures c.parted.ensures.moved c.parted.ensures.left
    (c.from_client.ensures.takes (not_wanting c.from_client.result _ c.from_client.ensures.answer c.in_ok-answered.ensures))
    c.from_client.ensures.same (record { sent = refl; fed = refl; cut = refl }) (omega (arith, c.len.ensures, c.args.self.now.sent.ok.0)) refl refl h
