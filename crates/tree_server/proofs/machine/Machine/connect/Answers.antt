use Rattle.std.proofs.Common.{rules, w32, w64, FitsSigned}
use Rattle.std.proofs.lemmas.Int.{to_z-of_z}
use Rattle.tree_server.proofs.machine.Machine.connect.Goals as goal
use Rattle.tree_server.proofs.LiveRead.{ok_from, err_from, is_zero, not_zero, read_none, known}

pub returns-then-session-eq0-clause-refused : goal.returns-then-session-eq0-clause-refused
returns-then-session-eq0-clause-refused g c =
    let session : FitsSigned w64 c.args.offer.now.given.session = search rules in
    err_from c.connect_none.result _ _ c.connect_none.ensures.refused
    (λ e h past body stands offered. h past body stands offered (is_zero c.args.offer.now.given.session session c.if-session-eq0.true))

pub returns-in_default-clause-refused : goal.returns-in_default-clause-refused
returns-in_default-clause-refused g c =
    let session : FitsSigned w64 c.args.offer.now.given.session = search rules in
    let reads = (simp to_z-of_z at c.session.ensures) in
    err_from c.connect_new.result _ _ c.connect_new.ensures.refused
    (λ e h past body stands offered. h past body stands offered (not_zero c.args.offer.now.given.session c.if-session-eq0.false)
    (read_none _ _ _ _ stands.means reads c.in_default.is))

pub returns-in-None-clause-taken : goal.returns-in-None-clause-taken
returns-in-None-clause-taken g c =
    let session : FitsSigned w64 c.args.offer.now.given.session = search rules in
    let heard : FitsSigned w64 c.in-Some.live.heard = search rules in
    let timeout : FitsSigned w32 c.in-Some.live.timeout = search rules in
    let reads = (simp to_z-of_z at c.session.ensures) in
    let its = (simp to_z-of_z at c.due-was.ensures.session) in
    let time = (simp to_z-of_z at c.due-was.ensures.at) in
    ok_from c.connect_again.result _ _ c.connect_again.ensures.taken (λ t h past body stands offered.
    let k =
    known _ _ _ _ _ past c.args.offer.now.given.session _ c.in-Some.live _ c.due-was.result stands reads c.in-Some.is c.in-None.is its
    time in
    h past body k.one stands offered (not_zero c.args.offer.now.given.session c.if-session-eq0.false) k.live k.has k.is)

pub returns-in-None-clause-refused : goal.returns-in-None-clause-refused
returns-in-None-clause-refused g c =
    let session : FitsSigned w64 c.args.offer.now.given.session = search rules in
    let heard : FitsSigned w64 c.in-Some.live.heard = search rules in
    let timeout : FitsSigned w32 c.in-Some.live.timeout = search rules in
    let reads = (simp to_z-of_z at c.session.ensures) in
    let its = (simp to_z-of_z at c.due-was.ensures.session) in
    let time = (simp to_z-of_z at c.due-was.ensures.at) in
    err_from c.connect_again.result _ _ c.connect_again.ensures.refused (λ e h past body stands offered.
    let k =
    known _ _ _ _ _ past c.args.offer.now.given.session _ c.in-Some.live _ c.due-was.result stands reads c.in-Some.is c.in-None.is its
    time in
    h past body k.one stands offered (not_zero c.args.offer.now.given.session c.if-session-eq0.false) k.live k.has k.is)

pub returns-in-Some-connection-clause-taken : goal.returns-in-Some-connection-clause-taken
returns-in-Some-connection-clause-taken g c =
    let session : FitsSigned w64 c.args.offer.now.given.session = search rules in
    let heard : FitsSigned w64 c.in-Some.live.heard = search rules in
    let timeout : FitsSigned w32 c.in-Some.live.timeout = search rules in
    let reads = (simp to_z-of_z at c.session.ensures) in
    let its = (simp to_z-of_z at c.due-was.ensures.session) in
    let time = (simp to_z-of_z at c.due-was.ensures.at) in
    ok_from c.connect_moved.result _ _ c.connect_moved.ensures.taken (λ t h past body stands offered.
    let k =
    known _ _ _ _ _ past c.args.offer.now.given.session _ c.in-Some.live _ c.due-was.result stands reads c.in-Some.is
    c.in-Some-connection.is its time in
    h past body k.one stands offered (not_zero c.args.offer.now.given.session c.if-session-eq0.false) k.live k.has k.is)

pub returns-in-Some-connection-clause-refused : goal.returns-in-Some-connection-clause-refused
returns-in-Some-connection-clause-refused g c =
    let session : FitsSigned w64 c.args.offer.now.given.session = search rules in
    let heard : FitsSigned w64 c.in-Some.live.heard = search rules in
    let timeout : FitsSigned w32 c.in-Some.live.timeout = search rules in
    let reads = (simp to_z-of_z at c.session.ensures) in
    let its = (simp to_z-of_z at c.due-was.ensures.session) in
    let time = (simp to_z-of_z at c.due-was.ensures.at) in
    err_from c.connect_moved.result _ _ c.connect_moved.ensures.refused (λ e h past body stands offered.
    let k =
    known _ _ _ _ _ past c.args.offer.now.given.session _ c.in-Some.live _ c.due-was.result stands reads c.in-Some.is
    c.in-Some-connection.is its time in
    h past body k.one stands offered (not_zero c.args.offer.now.given.session c.if-session-eq0.false) k.live k.has k.is)
