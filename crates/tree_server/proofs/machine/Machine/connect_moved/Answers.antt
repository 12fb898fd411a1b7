use Rattle.std.proofs.Common.{◌∙◌, refl, inl, rules, w64, FitsSigned}
use Rattle.std.proofs.lemmas.Int.{to_z-of_z}
use Rattle.tree_server.proofs.machine.Machine.connect_moved.Goals as goal
use Rattle.tree_server.proofs.ConnectsTaken.{if_err, made_room, no_room, not_room}
use Rattle.tree_server.proofs.MovesTaken.{moved_taken, moved_full}
use Rattle.tree_server.proofs.Replaced.{once_due}
use Rattle.tree_server.proofs.Standing.{stands_on, puts_on, stands_still}

pub returns-in_err-make_room-clause-refused : goal.returns-in_err-make_room-clause-refused
returns-in_err-make_room-clause-refused g c =
    let b = c.in_err-make_room.ensures in
    if_err _ c.in_err-make_room.field-0.0 _ c.from_residual.ensures.1 λ past body x stands offered some live on is. (
      not_room c.args.self.now.books 2 c.in_err-make_room.field-0.0 past _ _ body b.refused
          (moved_full _ _ _ _ _ past body c.args.asked c.args.offer.now c.args.lost x stands offered some live on),
      no_room g.N.Numberer.named _ _ _ _ _ _ _ _ _ _ past b.numberer b.kept b.held b.books b.room stands,
    )

pub returns-in_default-clause-refused : goal.returns-in_default-clause-refused
returns-in_default-clause-refused g c past body x stands offered some live on is =
    let b = c.in_ok-make_room.ensures in
    let j = c.in_default.ensures in
    let m = made_room g.N.Numberer.named _ _ _ _ _ _ _ _ _ _ past 2 b.numberer b.kept b.held b.books b.more stands in (
      inl refl,
      stands_on g.J.Keeping.keeps g.J.Keeping.room _ _ _ _ _ past j.journal (
          stands_still g.N.Numberer.named _ _ _ _ _ _ _ _ _ _ past j.numberer (λ order i. i) m.0.roomy j.memory j.books
          (j.same (once_due c.args.offer.now.given _ _ x _ _ refl live is m.0.dues)) m.0),
    )

pub returns-clause-taken : goal.returns-clause-taken
returns-clause-taken g c past body x stands offered some live on is =
    let b = c.in_ok-make_room.ensures in
    let p = c.put_connect.ensures in
    let j = c.in-Ok.ensures in
    let q = c.put.ensures in
    let session : FitsSigned w64 c.args.offer.now.given.session = search rules in
    moved_taken g.N.Numberer.named _ _ _ _ _ _ _ _ _ _ _ _ _ _ _ _ _ past body c.args.asked c.args.offer.now _ x _ c.args.lost _
    (made_room g.N.Numberer.named _ _ _ _ _ _ _ _ _ _ past 2 b.numberer b.kept b.held b.books b.more stands)
    offered some live on is c.requires.time (p.numberer ∙ q.numberer ∙ c.lose.ensures.numberer
    ∙ j.numberer) j.step c.lose.ensures.step q.held p.held
    (puts_on g.J.Keeping.keeps g.J.Keeping.room _ _ _ _ _ j.journal q.put) p.put j.books j.dues q.books p.books
    (to_z-of_z w64 c.args.offer.now.given.session session)
