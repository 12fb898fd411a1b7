use Rattle.std.proofs.Common.{rules, w64, FitsSigned}
use Rattle.std.proofs.lemmas.Int.{to_z-of_z}
use Rattle.tree_server.proofs.machine.Machine.take_connect.Goals as goal
use Rattle.tree_server.proofs.ConnectsTaken.{if_err}
use Rattle.tree_server.proofs.FirstFrames.{not_read, is_ahead, seen_within, took_on, not_on}
use Rattle.tree_server.proofs.LiveRead.{ok_from, err_from}

pub returns-in_err-asked-clause-refused : goal.returns-in_err-asked-clause-refused
returns-in_err-asked-clause-refused g c =
    if_err _ c.in_err-asked.field-0.0 _ c.from_residual.ensures.1 λ past stands none.
    (not_read past c.args.connection c.args.now c.args.body.now c.in_err-asked.field-0.0 none c.in_err-asked.ensures.refused, stands)

pub returns-then-asked-last-clause-refused : goal.returns-then-asked-last-clause-refused
returns-then-asked-last-clause-refused g c past stands none =
    let seen : FitsSigned w64 c.in_ok-asked.asked.seen = search rules in
    let last : FitsSigned w64 c.last-last.result = search rules in
    simp to_z-of_z (
      is_ahead _ past c.args.connection c.args.now c.args.body.now c.in_ok-asked.asked c.last-last.result stands.means
          c.last-last.ensures.last none
          c.in_ok-asked.ensures.read (simp to_z-of_z at c.if-asked-last.true),
      stands,
    )

pub returns-clause-taken : goal.returns-clause-taken
returns-clause-taken g c =
    let seen : FitsSigned w64 c.in_ok-asked.asked.seen = search rules in
    let last : FitsSigned w64 c.last-last.result = search rules in
    let now : FitsSigned w64 c.args.now = search rules in
    let at = (simp to_z-of_z at c.offer-offer.ensures.at) in
    let test = (simp to_z-of_z at c.if-asked-last.false) in
    ok_from c.connect.result _ _ c.connect.ensures.taken (λ t h past stands none.
    took_on past c.args.connection c.offer-offer.result.connection c.args.now c.offer-offer.result.at c.args.body.now t.outputs t.moved
    t.ending _ c.offer-offer.ensures.connection at
    (h past c.args.body.now stands (c.offer-offer.ensures.offered past c.args.body.now stands none c.in_ok-asked.ensures.read
    (seen_within _ past c.in_ok-asked.asked c.last-last.result stands.means c.last-last.ensures.last test))))

pub returns-clause-refused : goal.returns-clause-refused
returns-clause-refused g c =
    let seen : FitsSigned w64 c.in_ok-asked.asked.seen = search rules in
    let last : FitsSigned w64 c.last-last.result = search rules in
    let now : FitsSigned w64 c.args.now = search rules in
    let at = (simp to_z-of_z at c.offer-offer.ensures.at) in
    let test = (simp to_z-of_z at c.if-asked-last.false) in
    err_from c.connect.result _ _ c.connect.ensures.refused (λ e h past stands none.
    not_on past c.args.connection c.offer-offer.result.connection c.args.now c.offer-offer.result.at c.args.body.now e _
    c.offer-offer.ensures.connection at
    (h past c.args.body.now stands (c.offer-offer.ensures.offered past c.args.body.now stands none c.in_ok-asked.ensures.read
    (seen_within _ past c.in_ok-asked.asked c.last-last.result stands.means c.last-last.ensures.last test))))
