use Rattle.std.proofs.Common.{rules, ◌≡◌, ◌∷◌, [], Some, refl, sym, subst}
use Rattle.atomic_table.specs.Table.{opening}
use Rattle.tree_hall.specs.declared.view.Desk.{Desk}
use Rattle.tree_hall.specs.Turns.{Kept, starting}
use Rattle.tree_hall.proofs.Passes.{starts}
use Rattle.tree_hall.proofs.hall.Hall.new.Goals as goal

pub new-requires-2 : goal.new-requires-2
new-requires-2 g c =
    let y : Desk g.row.S.Denot = record { store = c.args.store; call = c.of.result } in
    let is : c.push.new.self.items ≡ Some y ∷ [] = search rules in
    let stands = g.S.StoreSide.stands in
    let about = c.of-about.result.value in
    subst (λ xs. Kept stands (stands about) (opening (0 ∷ 0 ∷ 0 ∷ 1 ∷ 0 ∷ []) xs starting)) (sym is)
    (starts stands (stands about) y (λ past o. (past, refl, subst (λ (s : g.row.S.Denot). stands s past) c.of-about.ensures o)))
