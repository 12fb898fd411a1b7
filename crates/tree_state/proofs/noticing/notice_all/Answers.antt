use Rattle.std.proofs.Common.{refl}
use Rattle.tree_state.proofs.Notices.{not_noticed, out_of_memory, noticed_all, all_noticed_of, forget_of, with_room}
use Rattle.tree_state.proofs.noticing.notice_all.Goals as goal

pub returns-in_err-notice_list-clause-notices : goal.returns-in_err-notice_list-clause-notices
returns-in_err-notice_list-clause-notices c = λ es start told t contents exist childs holds h k l noticed.
    out_of_memory _ start told _ _ _ _ _ _ c.from_residual.ensures.1
    (forget_of _ start told _ _ _ _ _ (c.in_err-notice_list.ensures es start told t contents holds h noticed))

pub returns-in_err-notice_list-2-clause-notices : goal.returns-in_err-notice_list-2-clause-notices
returns-in_err-notice_list-2-clause-notices c = λ es start told t contents exist childs holds h k l noticed.
    let one = all_noticed_of _ start told _ _ _ _ _ (c.in_ok-notice_list.ensures es start told t contents holds h noticed) in
    out_of_memory _ start told _ _ _ _ _ _ c.from_residual-in_err-notice_list-2.ensures.1
    (forget_of _ start told _ _ _ _ _ (c.in_err-notice_list-2.ensures es start told _ exist holds k one))

pub returns-in_err-notice_list-3-clause-notices : goal.returns-in_err-notice_list-3-clause-notices
returns-in_err-notice_list-3-clause-notices c = λ es start told t contents exist childs holds h k l noticed.
    let one = all_noticed_of _ start told _ _ _ _ _ (c.in_ok-notice_list.ensures es start told t contents holds h noticed) in
    let two = all_noticed_of _ start told _ _ _ _ _ (c.in_ok-notice_list-2.ensures es start told _ exist holds k one) in
    out_of_memory _ start told _ _ _ _ _ _ c.from_residual-in_err-notice_list-3.ensures.1
    (forget_of _ start told _ _ _ _ _ (c.in_err-notice_list-3.ensures es start told _ childs holds l two))

pub returns-in_err-make_room-clause-notices : goal.returns-in_err-make_room-clause-notices
returns-in_err-make_room-clause-notices c = λ es start told t contents exist childs holds h k l noticed.
    let one = all_noticed_of _ start told _ _ _ _ _ (c.in_ok-notice_list.ensures es start told t contents holds h noticed) in
    let two = all_noticed_of _ start told _ _ _ _ _ (c.in_ok-notice_list-2.ensures es start told _ exist holds k one) in
    let three = all_noticed_of _ start told _ _ _ _ _ (c.in_ok-notice_list-3.ensures es start told _ childs holds l two) in
    out_of_memory _ start told _ _ _ _ _ _ c.from_residual-in_err-make_room.ensures.1 (not_noticed _ start told _ _ _ _ _ _ (λ w. w) refl three)

pub returns-clause-notices : goal.returns-clause-notices
returns-clause-notices c = λ es start told t contents exist childs holds h k l noticed.
    let one = all_noticed_of _ start told _ _ _ _ _ (c.in_ok-notice_list.ensures es start told t contents holds h noticed) in
    let two = all_noticed_of _ start told _ _ _ _ _ (c.in_ok-notice_list-2.ensures es start told _ exist holds k one) in
    let three = all_noticed_of _ start told _ _ _ _ _ (c.in_ok-notice_list-3.ensures es start told _ childs holds l two) in
    noticed_all _ start told _ _ _ _ _ (with_room _ start told _ _ _ _ _ c.make_room.ensures.items three)
