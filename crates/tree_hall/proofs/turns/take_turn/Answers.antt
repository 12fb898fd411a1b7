use Rattle.std.proofs.Common.{◌≡◌, [], ◌++◌, ap, ◌∙◌, subst}
use Rattle.tree_hall.specs.declared.view.View.{View}
use Rattle.tree_hall.specs.declared.view.Role.TheVariants.{Idle, Has}
use Rattle.tree_hall.specs.Histories.{calls_by, StartsWith, item}
use Rattle.tree_hall.specs.Turns.{shown, called}
use Rattle.tree_hall.proofs.Admitting.{named_longer}
use Rattle.tree_hall.proofs.turns.take_turn.Goals as goal

pub serve-requires-clause-store : goal.serve-requires-clause-store
serve-requires-clause-store g c =
    let t = c.wait.ensures.took in
    (t.0, ap (λ m. m.1) t.2, rw (ap (λ m. m.0.seen) t.2) t.4)

pub serve-requires-clause-named : goal.serve-requires-clause-named
serve-requires-clause-named g c =
    let t = c.wait.ensures.took in
    let seen : c.wait.new.seat.me.0.seen ≡ t.1 = ap (λ m. m.0.seen) t.2 in
    let front = ap (λ m. m.0.seen) c.draw-ticket.ensures.view in
    rw seen (named_longer t.1 c.args.seat.now.me.0.seen c.args.act (subst (StartsWith t.1) front t.3) c.requires.named)

pub returns-clause-acted : goal.returns-clause-acted
returns-clause-acted g c =
    let t = c.wait.ensures.took in
    let s = c.serve.ensures.served in
    let v : View = c.args.seat.now.me.0 in
    let ticket = c.draw-ticket.result in
    let view = c.draw-ticket.ensures.view in
    let base : c.wait.new.seat.me.0 ≡ shown v (Has ticket) t.1 = ap (λ m. m.0) t.2 ∙ ap (λ m. shown m.0 (Has ticket) t.1) view in
    let log : t.1 ≡ v.seen ++ t.3.0 = t.3.1 ∙ ap (λ m. m.0.seen ++ t.3.0) view in (
      t.3.0,
      s.0 ∙ ap (λ u. (called u Idle (item u.number c.args.act c.serve.result.0), [])) base
          ∙ ap (λ l. (called (shown v Idle l) Idle (item v.number c.args.act c.serve.result.0), [])) log,
      s.1,
      subst (λ (u : View). calls_by u.number c.serve.new.seat.me.0.seen ≡ calls_by u.number c.serve.new.seat.me.0.mine) base s.2,
    )
