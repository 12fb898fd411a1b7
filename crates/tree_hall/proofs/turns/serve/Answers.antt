use Rattle.std.proofs.Common.{List, sym, ap, subst}
use Rattle.store_side.specs.Past.{Past as Went}
use Rattle.tree_hall.specs.declared.view.Item.{Item}
use Rattle.tree_hall.specs.Histories.{Played}
use Rattle.tree_hall.proofs.Leading.{leads_served}
use Rattle.tree_hall.proofs.turns.serve.Goals as goal

pub tell-requires-clause-played : goal.tell-requires-clause-played
tell-requires-clause-played g c past o =
    let leads = leads_served g.S.StoreSide.stands g.J.Opening.opened c.args.seat.now.me c.lift-store.new.seat.me c.lay.new.seat.me c.lift-store.result
    record { store = c.by-heard.new.store; call = c.of.result } c.of-laid.result.value c.perform-result.new.store c.args.act c.perform-result.result c.requires.store
    c.lift-store.ensures.desk.0 (ap (λ m. m.0) c.lift-store.ensures.desk.1) (ap (λ m. m.0) c.lay.ensures.desk) c.requires.named
    c.perform-result.ensures.allowed c.by-heard.ensures c.of.ensures c.of-laid.ensures past o in
    (leads.0, leads.1)

pub pass_on-requires-clause-store : goal.pass_on-requires-clause-store
pass_on-requires-clause-store g c past o =
    let leads = leads_served g.S.StoreSide.stands g.J.Opening.opened c.args.seat.now.me c.lift-store.new.seat.me c.lay.new.seat.me c.lift-store.result
    record { store = c.by-heard.new.store; call = c.of.result } c.of-laid.result.value c.perform-result.new.store c.args.act c.perform-result.result c.requires.store
    c.lift-store.ensures.desk.0 (ap (λ m. m.0) c.lift-store.ensures.desk.1) (ap (λ m. m.0) c.lay.ensures.desk) c.requires.named
    c.perform-result.ensures.allowed c.by-heard.ensures c.of.ensures c.of-laid.ensures past o in
    let seen = ap (λ m. m.0.seen) c.tell.ensures.told.0 in
    subst (λ (l : List Item). (last : Went) × Played past l last × g.S.StoreSide.stands c.of-laid.result.value.store last) (sym seen) leads
