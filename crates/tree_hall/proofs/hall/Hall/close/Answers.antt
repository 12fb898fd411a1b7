use Rattle.std.proofs.Common.{rules, ◌≡◌, Some, sym, ap, ◌∙◌, subst}
use mathlib.Core.Option.{some-injective}
use Rattle.store_side.specs.Past.{Past as Went}
use Rattle.tree_hall.specs.declared.view.View.{View}
use Rattle.tree_hall.specs.declared.view.Desk.{Desk}
use Rattle.tree_hall.specs.declared.view.Role.TheVariants.{Alone}
use Rattle.tree_hall.specs.Histories.{Played, calls_by, StartsWith}
use Rattle.tree_hall.specs.Turns.{posed}
use Rattle.tree_hall.specs.Passes.{view_in, view_of, seen_by, calls_of}
use Rattle.tree_hall.proofs.Passes.{closes}
use Rattle.tree_hall.proofs.hall.Hall.close.Goals as goal

pub unwrap-store-requires : goal.unwrap-store-requires
unwrap-store-requires g c =
    let alone = c.look_round-missing.ensures.alone (search rules) in
    let end = closes g.S.StoreSide.stands _ _ _ _ _ (ap (λ m. m.0.role) alone) c.close_with-closed.ensures.values.2 in
    let is : c.take-desk.result ≡ Some end.0 = some-injective _ _ (sym c.take-desk.ensures.value ∙ end.1) in
    rw is (search rules)

pub returns-clause-closed : goal.returns-clause-closed
returns-clause-closed g c =
    let alone = c.look_round-missing.ensures.alone (search rules) in
    let end = closes g.S.StoreSide.stands _ _ _ _ _ (ap (λ m. m.0.role) alone) c.close_with-closed.ensures.values.2 in
    let is : c.take-desk.result ≡ Some end.0 = some-injective _ _ (sym c.take-desk.ensures.value ∙ end.1) in
    let desk : c.unwrap-store.result ≡ end.0 = search (rules, is) in
    let v : View = c.look_round-missing.new.seat.me.0 in
    let view : v ≡ posed (view_of c.args.pass) Alone = ap (λ m. m.0) alone ∙ ap (λ u. posed u Alone) (sym (ap view_in c.into_seat-seat.ensures.2)) in
    let seen : v.seen ≡ seen_by c.args.pass = ap (λ u. u.seen) view in
    let mine : v.mine ≡ calls_of c.args.pass = ap (λ u. u.mine) view in (
      end.2,
      (λ past o. subst (λ (d : Desk g.row.S.Denot). (last : Went) × Played past end.2 last × g.S.StoreSide.stands d.store last) (sym desk) (end.3 past o)),
      subst (StartsWith end.2) seen end.4,
      λ by. ap (calls_by by) (sym mine) ∙ end.5 by,
    )
