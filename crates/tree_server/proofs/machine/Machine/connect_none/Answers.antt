use Rattle.std.proofs.Common.{◌∙◌, refl, inl, rules, w64, FitsSigned}
use Rattle.std.proofs.lemmas.Int.{to_z-of_z}
use Rattle.tree_server.proofs.machine.Machine.connect_none.Goals as goal
use Rattle.tree_server.proofs.ConnectsTaken.{if_err, made_room, no_room, not_room, none_taken, none_full}
use Rattle.tree_server.proofs.Standing.{stands_still, same_times}

pub returns-in_err-make_room-clause-refused : goal.returns-in_err-make_room-clause-refused
returns-in_err-make_room-clause-refused g c =
    let b = c.in_err-make_room.ensures in
    if_err _ c.in_err-make_room.field-0.0 _ c.from_residual.ensures.1 λ past body stands offered zero. (
      not_room c.args.self.now.books 1 c.in_err-make_room.field-0.0 past _ _ body b.refused
          (none_full _ _ _ _ _ past body c.args.asked c.args.offer.now stands offered zero),
      no_room g.N.Numberer.named _ _ _ _ _ _ _ _ _ _ past b.numberer b.kept b.held b.books b.room stands,
    )

pub returns-in_default-clause-refused : goal.returns-in_default-clause-refused
returns-in_default-clause-refused g c past body stands offered zero =
    let b = c.in_ok-make_room.ensures in
    let m = made_room g.N.Numberer.named _ _ _ _ _ _ _ _ _ _ past 1 b.numberer b.kept b.held b.books b.more stands in (
      inl refl,
      stands_still g.N.Numberer.named _ _ _ _ _ _ _ _ _ _ past c.connect.ensures.numberer
          (λ order i. i) m.0.roomy c.in_default.ensures.memory refl (same_times _) m.0,
    )

pub returns-clause-taken : goal.returns-clause-taken
returns-clause-taken g c past body stands offered zero =
    let b = c.in_ok-make_room.ensures in
    let p = c.put_connect.ensures in
    let fresh : FitsSigned w64 c.args.offer.now.fresh = search rules in
    let at : FitsSigned w64 c.args.offer.now.at = search rules in
    let session : FitsSigned w64 c.args.asked.session = search rules in
    simp to_z-of_z (none_taken g.N.Numberer.named _ _ _ _ _ _ _ _ _ _ _ past body c.args.asked c.args.offer.now _
    (made_room g.N.Numberer.named _ _ _ _ _ _ _ _ _ _ past 1 b.numberer b.kept b.held b.books b.more stands)
    offered zero (p.numberer ∙ c.connect.ensures.numberer) p.held (simp to_z-of_z at c.in-Ok.ensures.step) p.put p.books)
